-- A state counts by the values of its parameters alone: two lists of values that agree wherever a term asks them, as a state and an
-- array that holds it with 0 after it, give every term one value, and so every test.
use mathlib.Core.Path.{◌≡◌, refl, ap}
use mathlib.Core.Bool.{◌&&◌}
use mathlib.Core.List.{List, [], ◌∷◌}
use Prim.Native.Nat.{ℕ}
use lib.ListN.{length, get_or}
use Rattle.foundation.specs.First.{passes, all_in_range}
use Rattle.foundation.specs.Trial.{first_of}
use Rattle.terms.specs.Tree.{Value, Formula, num, par, sum_value, choice, no_value, const, compare, negation, join, no_formula, eval_v, eval_f, has_v, has_f}
use Rattle.terms.specs.Tree as tree
use Rattle.foundation.proofs.First.{all_alike}
use Rattle.criteria.specs.Design.{Design, Row, values, mapped}
use Rattle.criteria.specs.Rows.{row_at, mark_of, first_row, marked_test}
use Rattle.decision.specs.Tests.{have_b, has_at, has_mark_at, others_have_b, apart_b, holds10, focus_b, no_internal_b, holds2, holds3, holds4, holds5, holds6, holds7, holds8, holds9}
use Rattle.decision.specs.Examine.{nothing, once, ofImpl, ofSpec, columns, trial_of, first_failing}

module _ (v w : List ℕ) (agree : (i : ℕ) → get_or v i 0 ≡ get_or w i 0) where
  -- ---- terms

  mutual
    unfolding eval_v

    pub value_alike : (t : Value) (e : ℕ) → eval_v t v e ≡ eval_v t w e
    value_alike (num n) e = refl
    value_alike (par i) e = agree i
    value_alike sum_value e = refl
    value_alike (tree.arith o a b) e = rw (value_alike a e, value_alike b e)
    value_alike (choice f a b) e = rw (formula_alike f e, value_alike a e, value_alike b e)
    value_alike no_value e = refl

    pub formula_alike : (t : Formula) (e : ℕ) → eval_f t v e ≡ eval_f t w e
    formula_alike (const b) e = refl
    formula_alike (compare o a b) e = rw (value_alike a e, value_alike b e)
    formula_alike (negation f) e = rw (formula_alike f e)
    formula_alike (join o f g) e = rw (formula_alike f e, formula_alike g e)
    formula_alike no_formula e = refl

  mutual
    unfolding has_v

    pub has_value_alike : (t : Value) (e : ℕ) → has_v t v e ≡ has_v t w e
    has_value_alike (num n) e = refl
    has_value_alike (par i) e = refl
    has_value_alike sum_value e = refl
    has_value_alike (tree.arith o a b) e = rw (has_value_alike a e, has_value_alike b e, value_alike b e)
    has_value_alike (choice f a b) e = rw (has_formula_alike f e, formula_alike f e, has_value_alike a e, has_value_alike b e)
    has_value_alike no_value e = refl

    pub has_formula_alike : (t : Formula) (e : ℕ) → has_f t v e ≡ has_f t w e
    has_formula_alike (const b) e = refl
    has_formula_alike (compare o a b) e = rw (has_value_alike a e, has_value_alike b e)
    has_formula_alike (negation f) e = has_formula_alike f e
    has_formula_alike (join o f g) e = rw (has_formula_alike f e, has_formula_alike g e)
    has_formula_alike no_formula e = refl

  pub have_alike : (vs : List Value) (e : ℕ) → have_b vs v e ≡ have_b vs w e
  have_alike [] e = refl
  have_alike (t ∷ vs) e = rw (has_value_alike t e, have_alike vs e)

  pub values_alike : (vs : List Value) (e : ℕ) → values vs v e ≡ values vs w e
  values_alike [] e = refl
  values_alike (t ∷ vs) e = rw (value_alike t e, values_alike vs e)

  -- ---- the tests of a design

  module _ (d : Design) where
    pub mapped_alike : mapped d v ≡ mapped d w
    mapped_alike = values_alike d.mapping 0

    focus_alike : focus_b d v ≡ focus_b d w
    focus_alike = ap (λ t. passes {A = ℕ × ℕ} (first_row d.impl.rows t (λ k e. (k, e)))) tests
      where
        tests : marked_test d v ≡ marked_test d w
        tests j k r e = go k r e j
          where
            go : (k : ℕ) (r : Row) (e : ℕ) → marked_test d v k r e ≡ marked_test d w k r e
            go k r e = rw (formula_alike r.condition e, formula_alike (mark_of d k) e)

    pub no_internal_alike : no_internal_b d v ≡ no_internal_b d w
    no_internal_alike =
        all_alike _ _ (length d.impl.rows) 1 (λ k. all_alike _ _ (row_at d.impl.rows k).span 0 (λ e. rw (formula_alike (row_at d.impl.rows k).condition e)))

    second : holds2 d v ≡ holds2 d w
    second = rw mapped_alike

    third : (r : Row) (e : ℕ) → holds3 d v r e ≡ holds3 d w r e
    third r e = rw (formula_alike r.condition e, values_alike r.next e)

    fourth : (r : Row) (e : ℕ) → holds4 d v r e ≡ holds4 d w r e
    fourth r e = rw (formula_alike r.condition e, values_alike r.next e, mapped_alike)

    fifth : (k : ℕ) (r : Row) (e : ℕ) → holds5 d v k r e ≡ holds5 d w k r e
    fifth k r e = rw (formula_alike r.condition e, formula_alike (mark_of d k) e, values_alike r.next e, value_alike d.measure 0)

    sixth : (r : Row) (e : ℕ) → holds6 d v r e ≡ holds6 d w r e
    sixth r e = rw (formula_alike r.condition e, mapped_alike)

    seventh : (q : Row) (e : ℕ) → holds7 d v q e ≡ holds7 d w q e
    seventh q e = rw (focus_alike, mapped_alike, formula_alike _ e)

    eighth : (r : Row) (e : ℕ) → holds8 d v r e ≡ holds8 d w r e
    eighth r e = rw (formula_alike r.condition e, value_alike r.carries e, mapped_alike)

    ninth : (r : Row) (e : ℕ) → holds9 d v r e ≡ holds9 d w r e
    ninth r e = rw (formula_alike r.condition e, values_alike r.next e, mapped_alike)

    -- criterion 10

    pub has_at_alike : (r : Row) (e : ℕ) → has_at r v e ≡ has_at r w e
    has_at_alike r e = rw (has_formula_alike r.condition e, formula_alike r.condition e, has_value_alike r.carries e, have_alike r.next e)

    pub others_alike : others_have_b d v ≡ others_have_b d w
    others_alike =
        rw (
          have_alike d.mapping 0,
          mapped_alike,
          all_alike (λ k. all_in_range (λ e. has_at (row k) v e && has_mark_at d v k (row k) e) (row k).span 0) (λ k. all_in_range (λ e. has_at (row k) w e && has_mark_at d w k (row k) e) (row k).span 0)
              (length d.impl.rows) 1 (λ k. all_alike _ _ (row k).span 0 (λ e. rw (has_at_alike (row k) e, has_formula_alike (mark_of d k) e))),
        )
      where
        row : ℕ → Row
        row k = row_at d.impl.rows k

    pub apart_alike : apart_b d v ≡ apart_b d w
    apart_alike = rw (has_formula_alike d.invariant 0, formula_alike d.invariant 0, others_alike)

    pub tenth_alike : holds10 d v ≡ holds10 d w
    tenth_alike = rw (apart_alike, formula_alike d.invariant 0, has_value_alike d.measure 0)

    columns_alike : columns d v ≡ columns d w
    columns_alike j =
        nothing
        ∷ nothing
        ∷ once (second j)
        ∷ ofImpl (λ _ r e. third r e j)
        ∷ ofImpl (λ _ r e. fourth r e j)
        ∷ ofImpl (λ k r e. fifth k r e j)
        ∷ ofImpl (λ _ r e. sixth r e j)
        ∷ ofSpec (λ _ q e. seventh q e j)
        ∷ ofImpl (λ _ r e. eighth r e j)
        ∷ ofImpl (λ _ r e. ninth r e j)
        ∷ []

    -- the search
    pub failing_alike : first_failing d v ≡ first_failing d w
    failing_alike = ap (λ cs. first_of (trial_of d cs)) columns_alike
