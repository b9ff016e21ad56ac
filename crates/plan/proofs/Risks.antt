-- What the functions that find the risks return, as specs/Plan says it, and the turns of their loop; and that the plan of a design has the
-- risks. What they say is in Safe.
use mathlib.Core.Path.{◌≡◌, refl, sym, ◌∙◌}
use mathlib.Core.Bool.{Bool, true, false, cond}
use mathlib.Core.List.{List}
use Prim.Native.Nat.{ℕ, suc, ◌+◌, ◌-◌, ◌≤◌, ◌<◌}
use native.Mathlib.Omega.{arith}
use borrow.Author.Tests.{eqb-true, ne_eqb, le-leb, lt-leb, lt-ltb, le-ltb}
use lib.Dec.{eqb, leb}
use lib.ListN.{get_or, drop}
use Rattle.foundation.specs.First.{all_in_range}
use Rattle.foundation.proofs.First.{by_all}
use Rattle.foundation.proofs.Reflects.{says_yes, by_eqb}
use Rattle.terms.specs.Read.{read_v, read_f}
use Rattle.terms.proofs.And.{and_left, and_right}
use Rattle.terms.proofs.Read.{place}
use Rattle.divisors.specs.Divisors.{both, only_if, looked_v, looked_f}
use Rattle.divisors.specs.declared.Looked.{Looked}
use Rattle.divisors.proofs.Laws.{both_first}
use Rattle.design.specs.Line.{row_of, values_in}
use Rattle.design.specs.declared.Process.{Process}
use Rattle.design.specs.declared.Shape.{Shape}
use Rattle.steps.specs.Arrays.{line_of, row_by}
use Rattle.marks.specs.Marks.{place_from}
use Rattle.row_plan.specs.RowPlan.{risk_at, unsure_at}
use Rattle.row_plan.proofs.Numbers.{risk_read, risk_last, unsure_last}
use Rattle.plan.specs.Plan.{row_plan_of, row_plan_in, row_plan_for, risks_on, values_risk, risk_of, mark_risk, risk_in, impl_risk, spec_risk, risk_for, kinds_risk, sure_in, unsure, plan_in}

-- ---- values

module _ (f : List ℕ) (at n : ℕ) where
  -- with what is known already
  unfoldable pub risk_left : ℕ → ℕ → ℕ → ℕ
  risk_left known p i = risks_on known (values_in (n - i) (drop p f))

  pub risk_begin : risk_left 0 at 0 ≡ values_risk f at n
  unfolding risk_left values_risk
  risk_begin = let e : n - 0 ≡ n = omega arith in rw e

  pub risk_turn : (known p i : ℕ) (x : Looked) (r : ℕ) → i < n → x ≡ looked_v p (read_v 32 (drop p f)) → r ≡ both known x.divides
      → risk_left known p i ≡ values_risk f at n → risk_left r x.next (i + 1) ≡ values_risk f at n
  unfolding risk_left values_in risks_on
  risk_turn known p i x r l ex er inv = sym one ∙ inv
    where
      one : risk_left known p i ≡ risk_left r x.next (i + 1)
      one = let e : n - i ≡ suc (n - (i + 1)) = omega arith in rw (e, er, ex, place f p _ refl)

  pub risk_end : (known p i : ℕ) → n ≤ i → risk_left known p i ≡ values_risk f at n → known ≡ values_risk f at n
  unfolding risk_left values_in risks_on
  risk_end known p i l inv = go ∙ inv
    where
      go : known ≡ risk_left known p i
      go = let e : n - i ≡ 0 = omega arith in rw e

-- ---- rows and marks

-- a row of too many sum values
pub row_risk_wide : (f : List ℕ) (line n w : ℕ) → w ≡ get_or (drop line f) 2 0 → 256 < w → 512 ≡ risk_of (row_of n (drop line f))
unfolding risk_of only_if
row_risk_wide f line n w ew l = rw (← ew, lt-leb w 256 l)

pub row_risk_is : (f : List ℕ) (line n w : ℕ) (c x : Looked) (v y r : ℕ) → w ≡ get_or (drop line f) 2 0 → w ≤ 256 → c ≡ looked_f (line + 3) (read_f 32 (drop (line + 3) f))
    → x ≡ looked_v c.next (read_v 32 (drop c.next f)) → v ≡ values_risk f x.next n → y ≡ both x.divides v → r ≡ both c.divides y
    → r ≡ risk_of (row_of n (drop line f))
unfolding risk_of only_if values_risk
row_risk_is f line n w c x v y r ew l ec ex ev ey er = er ∙ rw (← ew, le-leb w 256 l, ey, ev, ex, ec, place f line 3 refl, place f (line + 3) _ refl, place f (line + 3 + _) _ refl)

module _ (f : List ℕ) (p : ℕ) where
  pub no_mark_risk : p ≡ 0 → 0 ≡ mark_risk f p
  unfolding mark_risk
  no_mark_risk z = rw z

  pub mark_risk_is : (x : Looked) → (p ≡ 0 → ⊥) → x ≡ looked_f p (read_f 32 (drop p f)) → x.divides ≡ mark_risk f p
  unfolding mark_risk
  mark_risk_is x some ex = rw (ex, ne_eqb p 0 some)

module _ (f s : List ℕ) (p : Process) (k m : ℕ) where
  pub risk_there : (line a b r : ℕ) → k ≤ p.rows.count → line ≡ line_of s p k → a ≡ risk_of (row_of p.parameters.count (drop line f)) → b ≡ mark_risk f m
      → r ≡ both a b → r ≡ risk_in f s p k m
  unfolding risk_in row_by
  risk_there line a b r l el ea eb er = er ∙ rw (ea, eb, el, le-leb k p.rows.count l)

  pub risk_past : p.rows.count < k → 0 ≡ risk_in f s p k m
  unfolding risk_in
  risk_past l = rw (lt-leb k p.rows.count l)

-- a row alone
both_nothing : (a : ℕ) → both a 0 ≡ a
both_nothing a = sym (both_first a 0 refl)

module _ (f s : List ℕ) (h : Shape) (i p r : ℕ) (ep : p ≡ place_from s h (row_plan_for f s h i).mark.at) where
  pub of_implementation : i < 32 → r ≡ risk_in f s h.implementation (i + 1) p → r ≡ risk_for f s h i
  unfolding risk_in risk_for impl_risk row_plan_for row_plan_in row_plan_of
  of_implementation l er = go (leb (i + 1) h.implementation.rows.count) refl
    where
      there : Bool
      there = leb (i + 1) h.implementation.rows.count

      go : (b : Bool) → there ≡ b → r ≡ risk_for f s h i
      go true e = er ∙ rw (ep, lt-ltb i 32 l, e)
      go false e = er ∙ rw (lt-ltb i 32 l, e)

  pub of_specification : 32 ≤ i → r ≡ risk_in f s h.specification (i - 32 + 1) p → r ≡ risk_for f s h i
  unfolding risk_in risk_for spec_risk row_plan_for row_plan_in row_plan_of mark_risk
  of_specification l er = go (leb (i - 32 + 1) h.specification.rows.count) refl
    where
      there : Bool
      there = leb (i - 32 + 1) h.specification.rows.count

      go : (b : Bool) → there ≡ b → r ≡ risk_for f s h i
      go true e = er ∙ rw (ep, le-ltb i 32 l, e) (both_nothing (spec_risk f s h (i - 32)))
      go false e = er ∙ rw (le-ltb i 32 l, e)

-- ---- invariant, mapping and measure

pub kinds_risk_is : (f s : List ℕ) (h : Shape) (a b c : ℕ) (x : Looked) (v : ℕ) (y : Looked) (w r : ℕ)
    → a ≡ get_or s h.invariant 0 → b ≡ get_or s h.mapping 0 → c ≡ get_or s h.measure 0
    → x ≡ looked_f (a + 1) (read_f 32 (drop (a + 1) f)) → v ≡ values_risk f (b + 1) h.specification.parameters.count
    → y ≡ looked_v (c + 1) (read_v 32 (drop (c + 1) f)) → w ≡ both v y.divides → r ≡ both x.divides w → r ≡ kinds_risk f s h
unfolding kinds_risk values_risk
kinds_risk_is f s h a b c x v y w r ea eb ec ex ev ey ew er =
    er ∙ rw (ew, ex, ev, ey, ← ea, ← eb, ← ec, place f a 1 refl, place f b 1 refl, place f c 1 refl)

-- ---- by the plan

module _ (f s : List ℕ) (h : Shape) where
  -- of a row that is there
  impl_there : (i : ℕ) → i < 32 → i < h.implementation.rows.count → risk_for f s h i ≡ impl_risk f s h i
  unfolding risk_for
  impl_there i l u = rw (lt-ltb i 32 l, le-leb (i + 1) h.implementation.rows.count (omega arith))

  spec_there : (i : ℕ) → i < 32 → i < h.specification.rows.count → risk_for f s h (32 + i) ≡ spec_risk f s h i
  unfolding risk_for
  spec_there i l u =
      let e : 32 + i - 32 ≡ i = omega arith in
      rw (le-ltb (32 + i) 32 (omega arith), e, le-leb (i + 1) h.specification.rows.count (omega arith))

  pub impl_risk_lem : (i : ℕ) → i < 32 → i < h.implementation.rows.count → risk_at (plan_in f s h) i ≡ impl_risk f s h i
  unfolding plan_in
  impl_risk_lem i l u = risk_read (row_plan_for f s h) (risk_for f s h) (kinds_risk f s h) (unsure (sure_in f s h)) i (omega arith) ∙ impl_there i l u

  pub spec_risk_lem : (i : ℕ) → i < 32 → i < h.specification.rows.count → risk_at (plan_in f s h) (32 + i) ≡ spec_risk f s h i
  unfolding plan_in
  spec_risk_lem i l u = risk_read (row_plan_for f s h) (risk_for f s h) (kinds_risk f s h) (unsure (sure_in f s h)) (32 + i) (omega arith) ∙ spec_there i l u

  pub kinds_risk_at : risk_at (plan_in f s h) 64 ≡ kinds_risk f s h
  unfolding plan_in
  kinds_risk_at = risk_last (row_plan_for f s h) (risk_for f s h) (kinds_risk f s h) (unsure (sure_in f s h))

  pub sure_at : unsure_at (plan_in f s h) ≡ cond (sure_in f s h) 0 1
  unfolding plan_in
  sure_at = unsure_last (row_plan_for f s h) (risk_for f s h) (kinds_risk f s h) (unsure (sure_in f s h))

  -- where there is none
  module _ (sure : sure_in f s h ≡ true) where
    all_sure : (i : ℕ) → i < 64 → risk_for f s h i ≡ 0
    unfolding sure_in
    all_sure i l =
        let none : Bool = all_in_range (λ j. eqb (risk_for f s h j) 0) 64 0 in
        says_yes (by_all (λ j. risk_for f s h j ≡ 0) (λ j. eqb (risk_for f s h j) 0) (λ j. by_eqb (risk_for f s h j) 0) 64 0)
        (and_left none (eqb (kinds_risk f s h) 0) sure) i (omega arith) (omega arith)

    pub sure_impl : (i : ℕ) → i < 32 → i < h.implementation.rows.count → impl_risk f s h i ≡ 0
    sure_impl i l u = sym (impl_there i l u) ∙ all_sure i (omega arith)

    pub sure_spec : (i : ℕ) → i < 32 → i < h.specification.rows.count → spec_risk f s h i ≡ 0
    sure_spec i l u = sym (spec_there i l u) ∙ all_sure (32 + i) (omega arith)

    pub sure_kinds : kinds_risk f s h ≡ 0
    unfolding sure_in
    sure_kinds = eqb-true (kinds_risk f s h) 0 (and_right (all_in_range (λ j. eqb (risk_for f s h j) 0) 64 0) (eqb (kinds_risk f s h) 0) sure)
