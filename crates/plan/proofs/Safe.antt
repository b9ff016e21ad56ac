-- Where that which could leave a row without a value is not so, the row of the design in the arrays has its values, for each of its sum
-- values; likewise invariant, mapping and measure. And the mark that stands at the planned place has a value where that of the row has.
use mathlib.Core.Path.{◌≡◌, refl, sym, ◌∙◌, ap}
use mathlib.Core.Bool.{Bool, true, false, ◌&&◌, ◌||◌, cond}
use mathlib.Core.List.{List, [], ◌∷◌}
use Prim.Native.Nat.{ℕ, ◌+◌, ◌-◌, ◌<◌, ◌≤◌}
use native.Mathlib.Omega.{arith}
use native.Mathlib.Decide.{dec_lt}
use borrow.Author.Tests.{eqb-true, eq-eqb, ne_eqb, leb-true}
use lib.Dec.{eqb, leb}
use lib.ListN.{get_or, drop}
use Rattle.foundation.specs.Reflects.{◌⇒◌}
use Rattle.terms.specs.Tree.{Value, Formula, has_f}
use Rattle.terms.specs.Read.{read_f}
use Rattle.terms.proofs.And.{and_both}
use Rattle.divisors.specs.Divisors.{safe_at, both, divides_v, divides_f}
use Rattle.divisors.proofs.Sets.{safe_both}
use Rattle.divisors.proofs.Divisors.{nothing_safe, only_both, safe_v, safe_f}
use Rattle.criteria.specs.Design.{Design, Row, State}
use Rattle.criteria.specs.Rows.{row_at}
use Rattle.decision.specs.Tests.{enabled_b, internal_b, have_b, has_invariant_b, has_mapping_b, has_measure_b, has_at, has_mark_at}
use Rattle.design.specs.Loaded.{design_at}
use Rattle.design.specs.declared.Shape.{Shape}
use Rattle.steps.specs.Arrays.{row_by}
use Rattle.marks.specs.Marks.{after_formulas, mark_place, place_from, mark_has_in}
use Rattle.marks.proofs.Held.{mark_none, mark_held}
use Rattle.row_plan.specs.RowPlan.{no_mark}
use Rattle.plan.specs.Plan.{mark_there, mark_in, risks_on, risk_of, mark_risk, impl_risk, spec_risk, kinds_risk}
use Rattle.plan.proofs.Held.{row_by_lem, row_is}

-- nothing is not so anywhere
pub safe_nothing : (c : ℕ) (v : List ℕ) → c ≡ 0 → safe_at c v ≡ true
safe_nothing c v z = rw z (nothing_safe v)

if_so : (a : Bool) {b : Bool} → b ≡ true → a ⇒ b ≡ true
if_so true p = p
if_so false p = refl

-- ---- rows

safe_values : (vs : List Value) (known : ℕ) (v : State) → safe_at (risks_on known vs) v ≡ true → (safe_at known v ≡ true) × ((e : ℕ) → e < 256 → have_b vs v e ≡ true)
unfolding risks_on
safe_values [] known v h = (h, λ e u. refl)
safe_values (t ∷ vs) known v h =
    let k = safe_values vs (both known (divides_v t)) v h in
    let l = safe_both v known (divides_v t) k.0 in
    (l.0, λ e u. and_both (safe_v t v e u l.1) (k.1 e u))

-- what could leave its terms without one
abbrev terms_risk : Row → ℕ
terms_risk r = both (divides_f r.condition) (both (divides_v r.carries) (risks_on 0 r.next))

pub span_fits : (r : Row) (v : State) → safe_at (risk_of r) v ≡ true → r.span ≤ 256
unfolding risk_of
span_fits r v h = leb-true r.span 256 (only_both (leb r.span 256) (terms_risk r) v h).0

pub row_has : (r : Row) (v : State) (e : ℕ) → e < r.span → safe_at (risk_of r) v ≡ true → has_at r v e ≡ true
unfolding risk_of
row_has r v e u h =
    let few = span_fits r v h in
    let below : e < 256 = omega arith in
    let next : ℕ = risks_on 0 r.next in
    let k = safe_both v (divides_f r.condition) (both (divides_v r.carries) next) (only_both (leb r.span 256) (terms_risk r) v h).1 in
    let l = safe_both v (divides_v r.carries) next k.1 in
    let n = safe_values r.next 0 v l.1 in
    and_both (safe_f r.condition v e below k.0)
    (if_so (enabled_b r v e) (and_both (safe_v r.carries v e below l.0) (n.1 e below)))

pub mark_has : (f : List ℕ) (p : ℕ) (v : State) (e : ℕ) → e < 256 → safe_at (mark_risk f p) v ≡ true → mark_has_in f p v e ≡ true
unfolding mark_risk mark_has_in
mark_has f p v e below = go (eqb p 0)
  where
    t : Formula
    t = (read_f 32 (drop p f)).tree

    go : (b : Bool) → safe_at (cond b 0 (divides_f t)) v ≡ true → b || has_f t v e ≡ true
    go true h = refl
    go false h = safe_f t v e below h

-- ---- the mark of a row, by its plan

module _ (f s : List ℕ) (h : Shape) (v : State) (i : ℕ) (below : i < h.implementation.rows.count) where
  abbrev d : Design
  d = design_at f s h

  abbrev row : Row
  row = row_at d.impl.rows (i + 1)

  abbrev start : ℕ
  start = get_or s h.marks.first 0

  abbrev at : ℕ
  at = mark_place f s h (i + 1)

  -- where it stands, by the plan
  abbrev pub mark_at : ℕ
  mark_at = place_from s h (mark_in f s h (i + 1)).at

  row_held : row_by f s h.implementation (i + 1) ≡ row
  row_held = row_by_lem f s h.implementation i ∙ sym (row_is f s h.implementation i below)

  after_start : start < at
  unfolding mark_place after_formulas
  after_start = omega arith

  -- of a visible row there is none
  of_visible : internal_b row ≡ false → (e : ℕ) → mark_has_in f mark_at v e ≡ has_mark_at d v (i + 1) row e
  unfolding mark_in mark_has_in
  of_visible z e = go (eqb h.marks.count 0)
    where
      go : (b : Bool) → mark_has_in f (place_from s h (cond b no_mark (cond (internal_b (row_by f s h.implementation (i + 1))) (mark_there f s h (i + 1)) no_mark)).at) v e ≡ has_mark_at d v (i + 1) row e
      go true = rw z
      go false = rw (row_held, z)

  -- of an internal one, without a line of marks and with one
  module _ (int : internal_b row ≡ true) where
    none_given : h.marks.count ≡ 0 → (e : ℕ) → mark_has_in f mark_at v e ≡ has_mark_at d v (i + 1) row e
    unfolding mark_in mark_has_in has_f
    none_given n e = rw (eq-eqb h.marks.count 0 n, int) (ap (λ (g : Formula). has_f g v e) (sym (mark_none f s h (i + 1) n)))

    some_given : (h.marks.count ≡ 0 → ⊥) → (e : ℕ) → mark_has_in f mark_at v e ≡ has_mark_at d v (i + 1) row e
    unfolding mark_in mark_there mark_has_in
    some_given some e =
        let l = after_start in
        let p : start + (at - start) ≡ at = omega arith in
        let q : internal_b (row_by f s h.implementation (i + 1)) ≡ true = ap internal_b row_held ∙ int in
        rw (ne_eqb h.marks.count 0 some, q, ne_eqb (at - start) 0 (λ z. omega arith), p, ne_eqb at 0 (λ z. omega arith), int)
        (ap (λ (g : Formula). has_f g v e) (sym (mark_held f s h (i + 1) (omega arith) (omega arith) (eqb-true row.action 0 int) some)))

  -- the mark at the planned place has a value where that of the design has
  pub mark_has_at : (e : ℕ) → mark_has_in f mark_at v e ≡ has_mark_at d v (i + 1) row e
  mark_has_at e = go (internal_b row) refl (dec_lt 0 h.marks.count)
    where
      go : (b : Bool) → internal_b row ≡ b → Dec (0 < h.marks.count) → mark_has_in f mark_at v e ≡ has_mark_at d v (i + 1) row e
      go false z c = of_visible z e
      go true z (yes c) = some_given z (λ n. omega arith) e
      go true z (no c) = none_given z (omega arith) e

  -- and where the risk is not so, it has, and so has the row
  pub impl_has_lem : (e : ℕ) → e < row.span → safe_at (impl_risk f s h i) v ≡ true → has_at row v e && has_mark_at d v (i + 1) row e ≡ true
  unfolding impl_risk
  impl_has_lem e u safe =
      let k = safe_both v (risk_of (row_by f s h.implementation (i + 1))) (mark_risk f mark_at) safe in
      let risk : safe_at (risk_of row) v ≡ true = rw (← row_held) k.0 in
      let few = span_fits row v risk in
      and_both (row_has row v e u risk) (sym (mark_has_at e) ∙ mark_has f mark_at v e (omega arith) k.1)

pub spec_has_lem : (f s : List ℕ) (h : Shape) (v : State) (i : ℕ) → i < h.specification.rows.count → (e : ℕ)
    → e < (row_at (design_at f s h).spec.rows (i + 1)).span → safe_at (spec_risk f s h i) v ≡ true → has_at (row_at (design_at f s h).spec.rows (i + 1)) v e ≡ true
unfolding spec_risk
spec_has_lem f s h v i below e u safe =
    let row : Row = row_at (design_at f s h).spec.rows (i + 1) in
    let held = row_by_lem f s h.specification i ∙ sym (row_is f s h.specification i below) in
    row_has row v e u (ap (λ (q : Row). safe_at (risk_of q) v) (sym held) ∙ safe)

-- ---- invariant, mapping and measure

pub kinds_have : (f s : List ℕ) (h : Shape) (v : State) → safe_at (kinds_risk f s h) v ≡ true
    → (has_invariant_b (design_at f s h) v ≡ true) × ((has_mapping_b (design_at f s h) v ≡ true) × (has_measure_b (design_at f s h) v ≡ true))
unfolding kinds_risk
kinds_have f s h v safe =
    let d : Design = design_at f s h in
    let k = safe_both v (divides_f d.invariant) (both (risks_on 0 d.mapping) (divides_v d.measure)) safe in
    let l = safe_both v (risks_on 0 d.mapping) (divides_v d.measure) k.1 in
    let m = safe_values d.mapping 0 v l.0 in
    let none : 0 < 256 = omega arith in
    (safe_f d.invariant v 0 none k.0, (m.1 0 none, safe_v d.measure v 0 none l.1))
