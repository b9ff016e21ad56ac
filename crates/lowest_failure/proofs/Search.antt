-- What the search of the code returns: the arms of the choice of a criterion, and the searches through sum values, rows and criteria, each
-- the search for a first failure of foundation/proofs/First; and that it is the search of decision/specs/Examine.
use mathlib.Core.Path.{◌≡◌, refl, sym, ◌∙◌}
use mathlib.Core.Bool.{Bool, true, false, not, cond}
use mathlib.Core.List.{List}
use Prim.Native.Nat.{ℕ, zero, suc, ◌+◌, ◌-◌, ◌≤◌, ◌<◌}
use native.Mathlib.Omega.{arith}
use borrow.Author.Tests.{eq-eqb, ne_eqb, not-true, not-false}
use lib.ListN.{length}
use Rattle.std.specs.Prelude.{Option, Some, None, MatchOption}
use Rattle.foundation.specs.First.{Outcome, fail, fail_if, or_else, first_in}
use Rattle.foundation.specs.Trial.{Place as At, place, first_place, in_criterion}
use Rattle.foundation.proofs.First.{first_alike, all_pass, fail_first}
use Rattle.criteria.specs.Design.{Design, Row, State}
use Rattle.criteria.specs.Rows.{row_at}
use Rattle.decision.specs.Tests.{holds2, holds3, holds4, holds5, holds6, holds7, holds8, holds9}
use Rattle.decision.specs.Examine.{trial, first_failing}
use Rattle.design.specs.Loaded.{design_at}
use Rattle.design.specs.declared.Shape.{Shape}
use Rattle.layout.specs.declared.Lent.{Lent}
use Rattle.steps.specs.Arrays.{row_span}
use Rattle.steps.proofs.States.{rows_count}
use Rattle.lowest_failure.specs.Search.{told_place, at_impl, at_impl_by, at_spec, holds_for, criterion_for, span_for, rows_for, in_row, in_all_rows, in_criteria}
use Rattle.verdicts.specs.declared.Place.{Place}

-- ---- which criterion, which rows

module _ (f s : List ℕ) (h : Shape) (n k r : ℕ) where
  pub span_7 : n ≡ 7 → r ≡ row_span f s h.specification k → r ≡ span_for (design_at f s h) n k
  unfolding span_for row_span
  span_7 y er = er ∙ rw y

  pub span_else : (n ≡ 7 → ⊥) → r ≡ row_span f s h.implementation k → r ≡ span_for (design_at f s h) n k
  unfolding span_for row_span
  span_else y er = er ∙ rw (ne_eqb n 7 y)

module _ (h : Shape) (n : ℕ) where
  pub rows_7 : n ≡ 7 → h.specification.rows.count ≡ rows_for h n
  unfolding rows_for
  rows_7 y = rw y

  pub rows_else : (n ≡ 7 → ⊥) → h.implementation.rows.count ≡ rows_for h n
  unfolding rows_for
  rows_else y = rw (ne_eqb n 7 y)

module _ (d : Design) (v : State) (r : Bool) (n k e : ℕ) where
  pub arm3 : n ≡ 3 → r ≡ at_impl holds3 d v k e → r ≡ holds_for d v n k e
  unfolding holds_for
  arm3 y er = er ∙ rw y

  pub arm4 : n ≡ 4 → r ≡ at_impl holds4 d v k e → r ≡ holds_for d v n k e
  unfolding holds_for
  arm4 y er = er ∙ rw y

  pub arm5 : n ≡ 5 → r ≡ at_impl_by holds5 d v k e → r ≡ holds_for d v n k e
  unfolding holds_for
  arm5 y er = er ∙ rw y

  pub arm6 : n ≡ 6 → r ≡ at_impl holds6 d v k e → r ≡ holds_for d v n k e
  unfolding holds_for
  arm6 y er = er ∙ rw y

  pub arm7 : n ≡ 7 → r ≡ at_spec holds7 d v k e → r ≡ holds_for d v n k e
  unfolding holds_for
  arm7 y er = er ∙ rw y

  pub arm8 : n ≡ 8 → r ≡ at_impl holds8 d v k e → r ≡ holds_for d v n k e
  unfolding holds_for
  arm8 y er = er ∙ rw y

  pub arm_else : (n ≡ 3 → ⊥) → (n ≡ 4 → ⊥) → (n ≡ 5 → ⊥) → (n ≡ 6 → ⊥) → (n ≡ 7 → ⊥) → (n ≡ 8 → ⊥)
      → r ≡ at_impl holds9 d v k e → r ≡ holds_for d v n k e
  unfolding holds_for
  arm_else h3 h4 h5 h6 h7 h8 er = er ∙ simp (ne_eqb n 3 h3, ne_eqb n 4 h4, ne_eqb n 5 h5, ne_eqb n 6 h6, ne_eqb n 7 h7, ne_eqb n 8 h8)

-- ---- the searches

module _ (d : Design) (v : State) where
  -- the sum values of a row
  abbrev fail_at : ℕ → ℕ → ℕ → Outcome At
  fail_at n k e = fail_if (not (holds_for d v n k e)) (place n k e)

  pub sums : (n k m : ℕ) (r : Option ℕ) (x : Option Place) → m ≡ span_for d n k
      → MatchOption r ((e : ℕ) → 0 ≤ e → e < m → holds_for d v n k e ≡ true)
      (λ i. (0 ≤ i) × (i < m) × (holds_for d v n k i ≡ false) × ((e : ℕ) → 0 ≤ e → e < i → holds_for d v n k e ≡ true))
      → MatchOption r (x ≡ None) (λ i. x ≡ Some (record { criterion = n; row = k; sum = i })) → told_place x ≡ in_row d v n k
  unfolding in_row
  sums n k m None x em none ex = rw ex (rw em at (sym (all_pass (fail_at n k) m 0 (λ e l u. rw (none e l (omega arith))))))
  sums n k m (Some i) x em (from, below, failing, before) ex =
      rw ex
      (rw em at
      (sym
      (fail_first (fail_at n k) m 0 (place n k i)
      (record { at = i; from = from; below = omega arith; fails = rw failing; before = λ e l u. rw (before e l u) }))))

  -- the rows of a criterion
  pub rows : (h : Shape) (n m : ℕ) → m ≡ rows_for h n → first_in (λ k. in_row d v n k) (m + 1 - 0) 0 ≡ in_all_rows h d v n
  unfolding in_all_rows
  rows h n m em = let e : m + 1 - 0 ≡ suc m = omega arith in rw (e, em)

-- ---- the search is that of the crate decision

module _ (f s : List ℕ) (h : Shape) (v : State) where
  abbrev d : Design
  d = design_at f s h

  -- a criterion at the rows of a process
  of_rows : (n m : ℕ) (rows : List Row) (holds : ℕ → Row → ℕ → Bool) → m ≡ length rows
      → first_in (λ k. first_in (λ e. fail_if (not (holds k (row_at rows k) e)) (place n k e)) (row_at rows k).span 0) (suc m) 0
      ≡ first_place (suc (length rows)) (λ k. (row_at rows k).span) (λ k e. not (holds k (row_at rows k) e)) (place n)
  of_rows n m rows holds em = rw em

  impl_rows : h.implementation.rows.count ≡ length d.impl.rows
  impl_rows = sym (rows_count f s h.implementation)

  spec_rows : h.specification.rows.count ≡ length d.spec.rows
  spec_rows = sym (rows_count f s h.specification)

  criterion : (n : ℕ) → 3 ≤ n → n < 10 → in_all_rows h d v n ≡ in_criterion (trial d v) n
  unfolding in_all_rows in_row rows_for span_for holds_for at_impl at_impl_by at_spec
  criterion zero l u = absurd (omega arith)
  criterion (suc zero) l u = absurd (omega arith)
  criterion (suc (suc zero)) l u = absurd (omega arith)
  criterion (suc (suc (suc zero))) l u = of_rows 3 _ d.impl.rows (λ _. holds3 d v) impl_rows
  criterion (suc (suc (suc (suc zero)))) l u = of_rows 4 _ d.impl.rows (λ _. holds4 d v) impl_rows
  criterion (suc (suc (suc (suc (suc zero))))) l u = of_rows 5 _ d.impl.rows (holds5 d v) impl_rows
  criterion (suc (suc (suc (suc (suc (suc zero)))))) l u = of_rows 6 _ d.impl.rows (λ _. holds6 d v) impl_rows
  criterion (suc (suc (suc (suc (suc (suc (suc zero))))))) l u = of_rows 7 _ d.spec.rows (λ _. holds7 d v) spec_rows
  criterion (suc (suc (suc (suc (suc (suc (suc (suc zero)))))))) l u = of_rows 8 _ d.impl.rows (λ _. holds8 d v) impl_rows
  criterion (suc (suc (suc (suc (suc (suc (suc (suc (suc zero))))))))) l u = of_rows 9 _ d.impl.rows (λ _. holds9 d v) impl_rows
  criterion (suc (suc (suc (suc (suc (suc (suc (suc (suc (suc n)))))))))) l u = absurd (omega arith)

  later : in_criteria h d v ≡ first_in (λ n. in_criterion (trial d v) n) 7 3
  unfolding in_criteria
  later = first_alike _ _ 7 3 (λ n l u. criterion n l (omega arith))

  whole : (b : Bool) → b ≡ holds2 d v → cond b (in_criteria h d v) (fail (place 2 0 0)) ≡ first_failing d v
  unfolding first_in
  whole b eb = rw (later, eb) (go (holds2 d v))
    where
      go : (b : Bool) → cond b (first_in (λ n. in_criterion (trial d v) n) 7 3) (fail (place 2 0 0))
          ≡ or_else (first_place 1 (λ _. 1) (λ _ _. not b) (place 2)) (first_in (λ n. in_criterion (trial d v) n) 7 3)
      go true = refl
      go false = refl

-- criterion 2 before the others, and a criterion by its number: the design and the state that are looked at are those that are given
module _ (l m : Lent) (h g : Shape) (v w : State) (same : (m ≡ l) × (g ≡ h)) (is : w ≡ v) where
  abbrev given : Design
  given = design_at l.fields.now l.starts.now h

  abbrev looked_at : Design
  looked_at = design_at m.fields.now m.starts.now g

  module _ (two : Bool) (said : two ≡ holds2 looked_at w) where
    pub second_fails : not two ≡ true → told_place (Some (record { criterion = 2; row = 0; sum = 0 })) ≡ first_failing given v
    second_fails y = whole l.fields.now l.starts.now h v false (sym (not-true two y) ∙ rw (same.0, same.1, is) at said)

    pub second_holds : (r : Option Place) → not two ≡ false → told_place r ≡ in_criteria g looked_at w → told_place r ≡ first_failing given v
    second_holds r y er = rw (same.0, same.1, is) at er ∙ whole l.fields.now l.starts.now h v true (sym (not-false two y) ∙ rw (same.0, same.1, is) at said)

  module _ (r : Bool) (n k e : ℕ) where
    pub arm2 : n ≡ 2 → r ≡ holds2 looked_at w → r ≡ criterion_for given v n k e
    unfolding criterion_for
    arm2 y er = rw (same.0, same.1, is) at er ∙ rw (eq-eqb n 2 y)

    pub arm_others : (n ≡ 2 → ⊥) → r ≡ holds_for looked_at w n k e → r ≡ criterion_for given v n k e
    unfolding criterion_for
    arm_others y er = rw (same.0, same.1, is) at er ∙ rw (ne_eqb n 2 y)
