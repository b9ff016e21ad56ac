-- By the right plan criterion 10 of specs/Tenth is that of the crate decision for the design in the arrays, at an array v.
use mathlib.Core.Path.{◌≡◌, refl, sym, ◌∙◌, ap}
use mathlib.Core.Bool.{Bool, true, false, not, ◌&&◌, ◌||◌, or-true, and-true, true≢false, cond}
use mathlib.Core.List.{List}
use Prim.Native.Nat.{ℕ, ◌+◌, ◌≤◌, ◌<◌}
use native.Mathlib.Omega.{arith}
use lib.Dec.{eqb}
use lib.ListN.{length, get_or, drop}
use Rattle.foundation.specs.First.{all_in_range}
use Rattle.foundation.specs.Reflects.{◌⇒◌}
use Rattle.foundation.proofs.First.{all_alike}
use Rattle.foundation.proofs.All.{all_in, all_yes}
use Rattle.divisors.specs.Divisors.{safe_at}
use Rattle.criteria.specs.Design.{Design, Row, State, mapped}
use Rattle.criteria.specs.Rows.{row_at}
use Rattle.decision.specs.Tests.{invariant_b, has_invariant_b, has_mapping_b, has_measure_b, all_rows, has_at, has_mark_at, others_have_b, apart_b, holds10}
use Rattle.decision.proofs.Alike.{has_at_alike}
use Rattle.design.specs.Loaded.{design_at}
use Rattle.design.specs.declared.Shape.{Shape}
use Rattle.layout.specs.Sizes.{Fits}
use Rattle.marks.specs.Marks.{place_from, mark_has_in}
use Rattle.defined.specs.Defined.{has_invariant_in, has_mapping_in, has_measure_in, row_at_in, row_has_in}
use Rattle.steps.specs.Arrays.{padded, line_of, invariant_in, mapped_in}
use Rattle.steps.proofs.States as states
use Rattle.plan.specs.Plan.{mark_in, row_plan_of, impl_risk, spec_risk, kinds_risk, sure_in, plan_in}
use Rattle.plan.proofs.Planned.{impl_row_plan, spec_row_plan}
use Rattle.plan.proofs.Held.{row_as_is, row_line_lem, row_is, numbered}
use Rattle.plan.proofs.Risks.{impl_risk_lem, spec_risk_lem, kinds_risk_at, sure_at, sure_impl, sure_spec, sure_kinds}
use Rattle.plan.proofs.Safe.{safe_nothing, impl_has_lem, spec_has_lem, kinds_have, mark_has_at}
use Rattle.tenth.specs.Tenth.{sure_by, row_by, rows_by, mapping_by, invariant_by, others_by, apart_as_read, asked_by, tenth_by}

-- a test that is left out where its answer is known to be yes
spared : (b x : Bool) → (b ≡ true → x ≡ true) → b || x ≡ x
spared true x h = sym (h refl)
spared false x h = refl

-- a sum value of a row, by another name for the row
in_span : {r q : Row} {e : ℕ} → q ≡ r → e < 0 + r.span → e < q.span
in_span same u = rw same (omega arith)

module _ (f s : List ℕ) (h : Shape) (fits : Fits h) (v : State) where
  abbrev d : Design
  d = design_at f s h

  abbrev p : List ℕ
  p = plan_in f s h

  abbrev y : List ℕ
  y = mapped d v

  abbrev t : List ℕ
  t = padded y

  abbrev kinds : ℕ
  kinds = kinds_risk f s h

  short : length y ≤ 8
  short = rw (states.mapped_length f s h v) fits.specification.parameters

  -- ---- the rows of the implementation

  abbrev impl_has : ℕ → Row → Bool
  impl_has k r = all_in_range (λ e. has_at r v e && has_mark_at d v k r e) r.span 0

  module _ (i : ℕ) (l : i < h.implementation.rows.count) where
    abbrev impl_row : Row
    impl_row = row_as_is f s h.implementation i

    is_impl : row_at d.impl.rows (i + 1) ≡ impl_row
    is_impl = row_is f s h.implementation i l

    abbrev line : ℕ
    line = line_of s h.implementation (i + 1)

    asked : row_has_in f line h.implementation.parameters.count (place_from s h (mark_in f s h (i + 1)).at) (get_or (drop line f) 2 0) v ≡ impl_has (i + 1) impl_row
    unfolding row_has_in row_at_in
    asked =
        rw (row_line_lem f s h.implementation i)
        (all_alike _ (λ e. has_at impl_row v e && has_mark_at d v (i + 1) impl_row e) impl_row.span 0
        (λ e. ap (λ b. has_at impl_row v e && b) (mark_has_at f s h v i l e ∙ ap (λ (q : Row). has_mark_at d v (i + 1) q e) is_impl)))

    impl_sure : safe_at (impl_risk f s h i) v ≡ true → impl_has (i + 1) impl_row ≡ true
    impl_sure safe =
        all_in _ (λ _. true) impl_row.span 0
        (λ e z u. ap (λ (q : Row). has_at q v e && has_mark_at d v (i + 1) q e) (sym is_impl) ∙ impl_has_lem f s h v i l e (in_span is_impl u) safe)
        ∙ all_yes (λ _. true) (λ _. refl) _ 0

    impl_row_lem : row_by f s h h.implementation p (0 + i) (i + 1) v ≡ impl_has (i + 1) impl_row
    unfolding row_by row_plan_of
    impl_row_lem =
        let few = fits.implementation.rows in
        let z : 0 + i ≡ i = omega arith in
        rw (z, impl_risk_lem f s h i (omega arith) l, impl_row_plan f s h fits i (omega arith) l, asked) (spared _ _ impl_sure)

  impl_rows_lem : rows_by f s h h.implementation p 0 v ≡ all_rows d.impl.rows (λ k r e. has_at r v e && has_mark_at d v k r e)
  unfolding rows_by
  impl_rows_lem =
      all_in _ (λ i. impl_has (i + 1) (row_as_is f s h.implementation i)) h.implementation.rows.count 0 (λ i z u. impl_row_lem i (omega arith))
      ∙ numbered f s h.implementation impl_has

  -- ---- those of the specification, at the mapped state

  abbrev spec_has : Row → Bool
  spec_has r = all_in_range (λ e. has_at r y e) r.span 0

  module _ (i : ℕ) (l : i < h.specification.rows.count) where
    abbrev spec_row : Row
    spec_row = row_as_is f s h.specification i

    is_spec : row_at d.spec.rows (i + 1) ≡ spec_row
    is_spec = row_is f s h.specification i l

    abbrev spec_line : ℕ
    spec_line = line_of s h.specification (i + 1)

    at_mapped : (e : ℕ) → has_at spec_row t e ≡ has_at spec_row y e
    at_mapped e = has_at_alike t y (states.same_values y short) d spec_row e

    spec_asked : row_has_in f spec_line h.specification.parameters.count 0 (get_or (drop spec_line f) 2 0) t ≡ spec_has spec_row
    unfolding row_has_in row_at_in mark_has_in
    spec_asked =
        rw (row_line_lem f s h.specification i) (all_alike _ (λ e. has_at spec_row y e) spec_row.span 0 (λ e. and-true (has_at spec_row t e) ∙ at_mapped e))

    spec_sure : safe_at (spec_risk f s h i) t ≡ true → spec_has spec_row ≡ true
    spec_sure safe =
        all_in _ (λ _. true) spec_row.span 0
        (λ e z u. sym (at_mapped e) ∙ ap (λ (q : Row). has_at q t e) (sym is_spec) ∙ spec_has_lem f s h t i l e (in_span is_spec u) safe)
        ∙ all_yes (λ _. true) (λ _. refl) _ 0

    spec_row_lem : row_by f s h h.specification p (32 + i) (i + 1) t ≡ spec_has spec_row
    unfolding row_by row_plan_of
    spec_row_lem =
        let few = fits.specification.rows in
        rw (spec_risk_lem f s h i (omega arith) l, spec_row_plan f s h fits i (omega arith) l, spec_asked) (spared _ _ spec_sure)

  spec_rows_lem : rows_by f s h h.specification p 32 t ≡ all_rows d.spec.rows (λ _ q e. has_at q y e)
  unfolding rows_by
  spec_rows_lem =
      all_in _ (λ i. spec_has (row_as_is f s h.specification i)) h.specification.rows.count 0 (λ i z u. spec_row_lem i (omega arith))
      ∙ numbered f s h.specification (λ _. spec_has)

  -- ---- the state

  safe_invariant : safe_at kinds v ≡ true → has_invariant_b d v ≡ true
  safe_invariant safe = (kinds_have f s h v safe).0

  safe_mapping : safe_at kinds v ≡ true → has_mapping_b d v ≡ true
  safe_mapping safe = (kinds_have f s h v safe).1.0

  safe_measure : safe_at kinds v ≡ true → has_measure_b d v ≡ true
  safe_measure safe = (kinds_have f s h v safe).1.1

  others_held : others_by f s h p (safe_at kinds v) v ≡ others_have_b d v
  unfolding others_by mapping_by has_mapping_in mapped_in
  others_held = rw (impl_rows_lem, spec_rows_lem, spared (safe_at kinds v) (has_mapping_b d v) safe_mapping)

  -- where nothing could lack a value, none does
  abbrev asks : Bool
  asks = has_invariant_b d v && (invariant_b d v ⇒ others_have_b d v)

  sure_all : sure_in f s h ≡ true → apart_b d v ≡ true
  sure_all sure =
      let none = safe_nothing kinds v (sure_kinds f s h sure) in
      let impl = sym (numbered f s h.implementation impl_has) ∙ all_in _ (λ _. true) h.implementation.rows.count 0
      (λ i z u. impl_sure i (omega arith) (safe_nothing _ v (sure_impl f s h sure i (let few = fits.implementation.rows in omega arith) (omega arith)))) ∙ all_yes (λ _. true) (λ _. refl) _ 0 in
      let spec = sym (numbered f s h.specification (λ _. spec_has)) ∙ all_in _ (λ _. true) h.specification.rows.count 0
      (λ i z u. spec_sure i (omega arith) (safe_nothing _ t (sure_spec f s h sure i (let few = fits.specification.rows in omega arith) (omega arith)))) ∙ all_yes (λ _. true) (λ _. refl) _ 0 in
      rw (safe_invariant none, safe_mapping none, impl, spec, or-true (not (invariant_b d v)))

  sure_said : sure_by p ≡ true → sure_in f s h ≡ true
  unfolding sure_by
  sure_said h' = go (sure_in f s h) (sym (ap (λ n. eqb n 0) (sure_at f s h)) ∙ h')
    where
      go : (b : Bool) → eqb (cond b 0 1) 0 ≡ true → b ≡ true
      go true e = refl
      go false e = absurd (true≢false (sym e))

  pub apart_held : apart_as_read f s h p v ≡ apart_b d v
  unfolding apart_as_read invariant_by has_invariant_in invariant_in
  apart_held =
      rw (kinds_risk_at f s h, others_held, spared (safe_at kinds v) (has_invariant_b d v) safe_invariant)
      (spared (sure_by p) (apart_b d v) (λ sure. sure_all (sure_said sure)))

  pub tenth_held : tenth_by f s h p v ≡ holds10 d v
  unfolding tenth_by asked_by has_measure_in invariant_in
  tenth_held =
      rw (apart_held, kinds_risk_at f s h, measure_spared) (spared (sure_by p) (holds10 d v) sure_tenth)
    where
      safe_all : safe_at kinds v ≡ true → (invariant_b d v ⇒ has_measure_b d v) ≡ true
      safe_all safe = rw (safe_measure safe, or-true (not (invariant_b d v)))

      measure_spared : safe_at kinds v || (invariant_b d v ⇒ has_measure_b d v) ≡ (invariant_b d v ⇒ has_measure_b d v)
      measure_spared = spared (safe_at kinds v) (invariant_b d v ⇒ has_measure_b d v) safe_all

      sure_tenth : sure_by p ≡ true → holds10 d v ≡ true
      sure_tenth sure =
          let so = sure_said sure in
          rw (sure_all so, safe_all (safe_nothing kinds v (sure_kinds f s h so)))
