-- What the tests of the code return is what the crate decision says of the design in the arrays.
use mathlib.Core.Path.{◌≡◌, refl, sym, ◌∙◌, ap}
use mathlib.Core.Logic.{◌⊎◌, inl, inr, ◌≢◌}
use mathlib.Core.Bool.{Bool, true, false, not, ◌&&◌, ◌||◌, true≢false, not-not}
use mathlib.Core.List.{List}
use Prim.Native.Nat.{ℕ, zero, suc, ◌+◌, ◌≤◌}
use native.Mathlib.Numerals.{add-one}
use native.Mathlib.Omega.{arith}
use native.Mathlib.Decide.{dec_le}
use borrow.Author.Tests.{eqb-true}
use lib.Dec.{eqb, ltb}
use lib.ListN.{length, length-map, get_or}
use Rattle.foundation.specs.First.{all_in_range}
use Rattle.foundation.specs.Radix.{same_b}
use Rattle.foundation.specs.Reflects.{◌⇒◌}
use Rattle.foundation.proofs.Trial.{place_passes}
use Rattle.criteria.specs.Design.{Design, Row, mapped}
use Rattle.criteria.specs.Step.{next_state}
use Rattle.criteria.specs.Rows.{no_row, row_at, marked_test}
use Rattle.terms.specs.Tree.{eval_v, eval_f, has_f}
use Rattle.decision.specs.Tests.{enabled_b, have_b, internal_b, marked_b, focus_b, row_number, holds2, holds3, holds4, holds5, holds6, holds7, holds8, holds9}
use Rattle.decision.proofs.Alike.{has_value_alike, has_formula_alike, have_alike}
use Rattle.decision.proofs.Find.{Found, Missing, find, found_partner}
use Rattle.design.specs.Loaded.{design_at}
use Rattle.design.specs.declared.Shape.{Shape}
use Rattle.layout.specs.Sizes.{Fits}
use Rattle.steps.specs.Arrays.{padded, step_of, row_step, row_span, row_with, below_in, same_in, inside_in, mapped_in, measure_in}
use Rattle.defined.specs.Defined.{has_invariant_in, has_mapping_in, has_measure_in}
use Rattle.marks.specs.Marks.{marked_in}
use Rattle.marks.proofs.Held.{marked_held}
use Rattle.steps.specs.declared.Step.{Step}
use Rattle.steps.proofs.Arrays.{row_past}
use Rattle.steps.proofs.States as states
use Rattle.lowest_failure.specs.Search.{quiet_in, at_impl, at_impl_by, at_spec}

twice : (b x : Bool) → b || x ≡ not (not b) || x
twice b x = ap (λ z. z || x) (sym (not-not b))

-- two tests that agree where there is a row agree behind the test whether there is one
where_some : (j : ℕ) (a b : Bool) → (j ≢ 0 → a ≡ b) → (not (eqb j 0) ⇒ a) ≡ (not (eqb j 0) ⇒ b)
where_some zero a b h = refl
where_some (suc j) a b h = ap (λ (y : Bool). not (eqb (suc j) 0) ⇒ y) (h (omega arith))

-- ---- marks: that of an enabled internal row is the design's

module _ (f s : List ℕ) (h : Shape) (v : List ℕ) (k e : ℕ) where
  abbrev row : Row
  row = row_at (design_at f s h).impl.rows k

  -- no row is enabled for no number
  not_past : (j : ℕ) → row_at (design_at f s h).impl.rows j ≡ no_row → enabled_b (row_at (design_at f s h).impl.rows j) v e ≡ true → ⊥
  unfolding eval_f
  not_past j is on = true≢false (sym on ∙ ap (λ (r : Row). enabled_b r v e) is)

  mark_agrees : enabled_b row v e ≡ true → internal_b row ≡ true → marked_in f s h k v e ≡ marked_b (design_at f s h) k v e
  mark_agrees on int = go (dec_le k h.implementation.rows.count)
    where
      some : k ≡ 0 → ⊥
      some z = not_past k (rw z) on

      go : Dec (k ≤ h.implementation.rows.count) → marked_in f s h k v e ≡ marked_b (design_at f s h) k v e
      go (yes l) = marked_held f s h k v e some l (eqb-true row.action 0 int)
      go (no l) = absurd (not_past k (row_past f s h.implementation k (omega arith)) on)

  pub mark_tested : internal_b row && (enabled_b row v e && marked_in f s h k v e) ≡ marked_test (design_at f s h) v k row e
  mark_tested = go (internal_b row) refl (enabled_b row v e) refl
    where
      go : (i : Bool) → internal_b row ≡ i → (b : Bool) → enabled_b row v e ≡ b → i && (b && marked_in f s h k v e) ≡ i && (b && marked_b (design_at f s h) k v e)
      go false z b y = refl
      go true z false y = refl
      go true z true y = mark_agrees y z

  pub mark_asked : (x : Bool) → (enabled_b row v e ⇒ internal_b row ⇒ marked_in f s h k v e ⇒ x) ≡ (enabled_b row v e ⇒ internal_b row ⇒ marked_b (design_at f s h) k v e ⇒ x)
  mark_asked x = go (internal_b row) refl (enabled_b row v e) refl
    where
      go : (i : Bool) → internal_b row ≡ i → (b : Bool) → enabled_b row v e ≡ b → (b ⇒ i ⇒ marked_in f s h k v e ⇒ x) ≡ (b ⇒ i ⇒ marked_b (design_at f s h) k v e ⇒ x)
      go i z false y = refl
      go false z true y = refl
      go true z true y = ap (λ m. m ⇒ x) (mark_agrees y z)

module _ (f s : List ℕ) (h : Shape) (v t : List ℕ) (focus : Bool) (fits : Fits h) (mapped_is : t ≡ mapped_in f s h v) (focus_is : focus ≡ focus_b (design_at f s h) v) where
  abbrev d : Design
  d = design_at f s h

  abbrev n : ℕ
  n = h.specification.parameters.count

  abbrev impl_at : ℕ → Row
  impl_at k = row_at d.impl.rows k

  abbrev spec_at : ℕ → Row
  spec_at k = row_at d.spec.rows k

  few : n ≤ 8
  few = fits.specification.parameters

  short : length (mapped d v) ≤ 8
  short = rw (states.mapped_length f s h v) few

  mapped_there : t ≡ padded (mapped d v)
  unfolding mapped_in
  mapped_there = mapped_is

  pub holds2_is : (b : Bool) → b ≡ below_in f s h.specification t → b ≡ holds2 d v
  holds2_is b eb =
      eb ∙ ap (λ t. below_in f s h.specification t) mapped_there
      ∙ states.below_held f s h.specification fits.specification (mapped d v) (states.mapped_length f s h v)

  -- the specification's rows at the mapped state
  spec_step : (j e : ℕ) → row_step f s h.specification j t e ≡ step_of (spec_at j) (mapped d v) e
  unfolding row_step
  spec_step j e = ap (λ t. step_of (spec_at j) t e) mapped_there ∙ states.step_held (mapped d v) short (spec_at j) e

  impl_step : (j e : ℕ) (q : Step) → q ≡ row_step f s h.implementation j v e → q ≡ step_of (impl_at j) v e
  unfolding row_step
  impl_step j e q eq = eq

  -- a row of an action that there is has a next value for each parameter
  answer_length : (a : ℕ) → row_number d.spec a ≢ 0 → length (spec_at (row_number d.spec a)).next ≡ n
  answer_length a some = go (find d.spec.rows a 1)
    where
      go : Found d.spec.rows a 1 ⊎ Missing d.spec.rows a 1 → length (spec_at (row_number d.spec a)).next ≡ n
      go (inl g) = rw (found_partner d.spec a g) (states.rows_length f s h.specification g.at g.row g.is_row)
      go (inr m) = absurd (some m.number)

  module _ (k e : ℕ) (r : Step) where
    module _ (er : r ≡ row_step f s h.implementation k v e) where
      abbrev next : List ℕ
      next = next_state (impl_at k) v e

      next_short : length next ≤ 8
      next_short = states.next_short f s h.implementation fits.implementation k v e

      -- what has a value there
      agree : (i : ℕ) → get_or (padded next) i 0 ≡ get_or next i 0
      agree = states.same_values next next_short

      pub holds3_is : (b has : Bool) → b ≡ inside_in f s h r.next → has ≡ has_invariant_in f s h r.next → not r.enabled || (b && has) ≡ at_impl holds3 d v k e
      unfolding at_impl row_step step_of eval_v has_invariant_in
      holds3_is b has eb eh = rw (eh, eb, er, has_formula_alike (padded next) next agree d.invariant 0) (go (states.next_length f s h.implementation k))
        where
          go : (length (impl_at k).next ≡ h.implementation.parameters.count) ⊎ (impl_at k ≡ no_row)
              → not (step_of (impl_at k) v e).enabled || (inside_in f s h (padded next) && has_f d.invariant next 0) ≡ holds3 d v (impl_at k) e
          go (inl m) = rw (states.inside_held f s h fits next (length-map (impl_at k).next _ ∙ m))
          go (inr m) = rw m

      pub holds4_is : (w : List ℕ) (b has : Bool) → w ≡ mapped_in f s h r.next → b ≡ same_in n t w → has ≡ has_mapping_in f s h r.next
          → not r.enabled || (not (eqb r.action 0) || (b && has)) ≡ at_impl holds4 d v k e
      unfolding at_impl row_step step_of has_mapping_in
      holds4_is w b has ew eb eh =
          rw (
            eh,
            eb,
            ew,
            er,
            mapped_there,
            states.mapped_held f s h next next_short,
            states.same_held (mapped d v) (mapped d next) n (states.mapped_length f s h v) (states.mapped_length f s h next) few,
            have_alike (padded next) next agree d.mapping 0,
          )

      pub holds5_is : (there measure : ℕ) (marked has : Bool) → there ≡ measure_in f s h r.next → measure ≡ measure_in f s h v → marked ≡ marked_in f s h k v e
          → has ≡ has_measure_in f s h r.next → not r.enabled || (not (eqb r.action 0) || (not marked || (ltb there measure && has))) ≡ at_impl_by holds5 d v k e
      unfolding at_impl_by row_step step_of measure_in has_measure_in
      holds5_is there measure marked has et em ek eh =
          rw (eh, ek, et, em, er, states.measure_held f s h next next_short, has_value_alike (padded next) next agree d.measure 0) (mark_asked f s h v k e _)

      module _ (j : ℕ) (q : Step) (ej : j ≡ row_with f s h.specification r.action) (eq : q ≡ row_step f s h.specification j t e) where
        pub holds6_is : not r.enabled || (eqb r.action 0 || q.enabled) ≡ at_impl holds6 d v k e
        unfolding at_impl step_of row_with
        holds6_is = ap (λ b. not r.enabled || b) (twice (eqb r.action 0) q.enabled) ∙ rw (eq, spec_step j e, ej, impl_step k e r er)

        pub holds8_is : not r.enabled || (eqb r.action 0 || (eqb j 0 || eqb r.carries q.carries)) ≡ at_impl holds8 d v k e
        unfolding at_impl step_of row_with
        holds8_is =
            ap (λ b. not r.enabled || (eqb r.action 0 || b)) (twice (eqb j 0) (eqb r.carries q.carries))
            ∙ ap (λ b. not r.enabled || b) (twice (eqb r.action 0) (not (not (eqb j 0)) || eqb r.carries q.carries))
            ∙ rw (eq, spec_step j e, ej, impl_step k e r er)

        pub holds9_is : (w : List ℕ) (b has : Bool) → w ≡ mapped_in f s h r.next → b ≡ same_in n w q.next → has ≡ has_mapping_in f s h r.next
            → not r.enabled || (eqb r.action 0 || (eqb j 0 || (b && has))) ≡ at_impl holds9 d v k e
        unfolding at_impl step_of row_with has_mapping_in
        holds9_is w b has ew eb eh =
            ap (λ x. not r.enabled || (eqb r.action 0 || x)) (twice (eqb j 0) (b && has))
            ∙ ap (λ x. not r.enabled || x) (twice (eqb r.action 0) (not (not (eqb j 0)) || (b && has)))
            ∙ rw (eh, eb, ew, eq, spec_step j e, ej, impl_step k e r er, states.mapped_held f s h next next_short, have_alike (padded next) next agree d.mapping 0)
            (ap (λ x. enabled_b (impl_at k) v e ⇒ not (internal_b (impl_at k)) ⇒ x)
            (where_some (row_number d.spec (impl_at k).action) _ _ (λ some. ap (λ x. x && have_b d.mapping next 0) (there some))))
          where
            i : ℕ
            i = row_number d.spec (impl_at k).action

            there : i ≢ 0 → same_in n (padded (mapped d next)) (padded (next_state (spec_at i) (mapped d v) e)) ≡ same_b (mapped d next) (next_state (spec_at i) (mapped d v) e)
            there some =
                states.same_held (mapped d next) (next_state (spec_at i) (mapped d v) e) n (states.mapped_length f s h next)
                (length-map (spec_at i).next _ ∙ answer_length (impl_at k).action some) few

    pub holds7_is : (j : ℕ) (q : Step) → r ≡ row_step f s h.specification k t e → j ≡ row_with f s h.implementation r.action
        → q ≡ row_step f s h.implementation j v e → not focus || (not r.enabled || q.enabled) ≡ at_spec holds7 d v k e
    unfolding at_spec step_of row_with
    holds7_is j q er ej eq = rw (impl_step j e q eq, ej, er, spec_step k e, focus_is)

-- ---- focus points

module _ (f s : List ℕ) (h : Shape) (v : List ℕ) where
  abbrev design : Design
  design = design_at f s h

  abbrev pub quiet_at : ℕ → ℕ → Bool
  quiet_at k e = not (marked_test design v k (row_at design.impl.rows k) e)

  pub quiet_says : (k e : ℕ) (r : Step) (marked b : Bool) → r ≡ row_step f s h.implementation k v e → marked ≡ marked_in f s h k v e
      → b ≡ not (eqb r.action 0 && (r.enabled && marked)) → b ≡ quiet_at k e
  unfolding row_step step_of
  quiet_says k e r marked b er ek eb = eb ∙ ap not (rw (er, ek) (mark_tested f s h v k e))

  pub quiet_is : (k m : ℕ) → m ≡ row_span f s h.implementation k → all_in_range (quiet_at k) m 0 ≡ quiet_in design v k
  unfolding quiet_in row_span
  quiet_is k m em = rw em

  pub focus_is : all_in_range (λ k. quiet_in design v k) (h.implementation.rows.count + 1) 0 ≡ focus_b design v
  unfolding quiet_in
  focus_is =
      ap (λ m. all_in_range (λ k. quiet_in design v k) m 0) (add-one h.implementation.rows.count ∙ ap suc (sym (states.rows_count f s h.implementation)))
      ∙ sym (place_passes (suc (length design.impl.rows)) (λ k. (row_at design.impl.rows k).span) (λ k e. marked_test design v k (row_at design.impl.rows k) e) (λ k e. (k, e)))
