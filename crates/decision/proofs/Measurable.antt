-- A measure can be made, or is turned down: criterion 10, the measure apart, holds in every state, or fails in some, and criterion 3 in every
-- state where the invariant holds, or fails in some; of any design, whatever its numbers.
use mathlib.Core.Path.{◌≡◌, refl, sym, ◌∙◌, ap, subst}
use mathlib.Core.Logic.{◌⊎◌, inl, inr}
use mathlib.Core.Bool.{Bool, false, not, cond}
use Prim.Native.Nat.{ℕ, suc, ◌<◌, zero-le}
use native.Mathlib.Omega.{arith}
use borrow.Author.Tests.{not-true, not-false}
use lib.ListN.{length}
use Rattle.foundation.specs.First.{Outcome, pass, fail, fail_if, first_in}
use Rattle.foundation.specs.Reflects.{Reflects, so, not_so}
use Rattle.foundation.proofs.First.{pass≢fail, fail_if_pass, fail_if_fail, first_pass, first_fail, FirstAt}
use Rattle.foundation.proofs.Trial.{place_pass, place_fail}
use Rattle.foundation.proofs.Reflects.{says_yes, says_no, is_so, by_if}
use Rattle.foundation.proofs.Radix.{number_below, values_below, values_of_number}
use Rattle.criteria.specs.Design.{Design, Row, State, RowIs, InSize, InvariantState, Invariant, sizes, states, state_number}
use Rattle.criteria.specs.Step.{next_state}
use Rattle.criteria.specs.Rows.{row_at, first_row}
use Rattle.criteria.specs.Criteria.{Each, Criterion3, OthersHave, MeasureApart}
use Rattle.criteria.specs.Measure.{Measurable, Unmeasurable, third_fails, tenth_fails}
use Rattle.criteria.proofs.Rows.{is_row_at, is_row_below, row_at_is}
use Rattle.decision.specs.Tests.{invariant_b, holds3, apart_b}
use Rattle.decision.specs.Examine.{state_at}
use Rattle.decision.proofs.Tests.{by_enabled, by_invariant, by_invariant_state, by_apart}

-- ---- criterion 10, the measure apart

module _ (d : Design) where
  abbrev lacks : ℕ → Outcome ℕ
  lacks k = fail_if (not (apart_b d (state_at d k))) k

  all_have : first_in lacks (states d) 0 ≡ pass → (s : State) → InSize d.impl s → MeasureApart d s
  all_have h s i =
      let l = number_below (sizes d.impl) s i in
      let k : ℕ = state_number d s in
      let there = fail_if_pass (not (apart_b d (state_at d k))) k (first_pass lacks (states d) 0 h k zero-le (omega arith)) in
      subst (MeasureApart d) (values_of_number (sizes d.impl) s i) (says_yes (by_apart d (state_at d k)) (not-false _ there))

  one_lacks : (x : ℕ) → first_in lacks (states d) 0 ≡ fail x → Unmeasurable d
  one_lacks x h =
      let f = first_fail lacks (states d) 0 x h in
      let l = f.below in
      let there = (fail_if_fail (not (apart_b d (state_at d f.at))) f.at x f.fails).0 in
      tenth_fails (values_below (sizes d.impl) f.at (omega arith)) (says_no (by_apart d (state_at d f.at)) (not-true _ there))

-- ---- criterion 3, where that holds

module _ (d : Design) (tenth : (s : State) → InSize d.impl s → MeasureApart d s) where
  -- the first row and sum value that fail at a state
  abbrev fails_at : State → Outcome (ℕ × ℕ)
  fails_at s = first_row d.impl.rows (λ _ r e. not (holds3 d s r e)) (λ k e. (k, e))

  abbrev tried : ℕ → Outcome (ℕ × ℕ)
  tried k = cond (invariant_b d (state_at d k)) (fails_at (state_at d k)) pass

  by_third : (s : State) → OthersHave d s → (k : ℕ) (r : Row) (e : ℕ) → RowIs d.impl.rows k r → e < r.span → Reflects (Criterion3 d s r e) (holds3 d s r e)
  by_third s have k r e is l = by_if _ (by_enabled r s e ((have.impl k r is).condition e l) l) (λ _. by_invariant_state d (next_state r s e))

  all_meet : first_in tried (states d) 0 ≡ pass → (s : State) → InvariantState d s → Each d.impl (Criterion3 d s)
  all_meet h s i k r e is on = says_yes (by_third s (apart.others i.invariant) k r e is on.in_span) (not-false (holds3 d s r e) none) on
    where
      apart : MeasureApart d s
      apart = tenth s i.in_size

      below : state_number d s < states d
      below = number_below (sizes d.impl) s i.in_size

      here : state_at d (state_number d s) ≡ s
      here = values_of_number (sizes d.impl) s i.in_size

      passed : fails_at s ≡ pass
      passed =
          ap (λ b. cond b (fails_at s) pass) (sym (is_so (by_invariant d s apart.invariant) i.invariant))
          ∙ ap (λ (u : State). cond (invariant_b d u) (fails_at u) pass) (sym here)
          ∙ first_pass tried (states d) 0 h (state_number d s) zero-le (let l = below in omega arith)

      none : not (holds3 d s r e) ≡ false
      none =
          subst (λ (q : Row). not (holds3 d s q e) ≡ false) (is_row_at is)
          (place_pass (suc (length d.impl.rows)) (λ j. (row_at d.impl.rows j).span) (λ j e. not (holds3 d s (row_at d.impl.rows j) e)) (λ j e. (j, e))
          passed k e (is_row_below is) (subst (λ (q : Row). e < q.span) (sym (is_row_at is)) on.in_span))

  one_fails : (x : ℕ × ℕ) → first_in tried (states d) 0 ≡ fail x → Unmeasurable d
  one_fails x h = go (by_invariant d s apart.invariant) refl
    where
      found : FirstAt tried (states d) 0 x
      found = first_fail tried (states d) 0 x h

      s : State
      s = state_at d found.at

      below : found.at < states d
      below = let l = found.below in omega arith

      apart : MeasureApart d s
      apart = tenth s (values_below (sizes d.impl) found.at below)

      go : {b : Bool} → Reflects (Invariant d s) b → invariant_b d s ≡ b → Unmeasurable d
      go (not_so n) e = absurd (pass≢fail (ap (λ b. cond b (fails_at s) pass) (sym e) ∙ found.fails))
      go (so holds) e =
          let p = place_fail (suc (length d.impl.rows)) (λ j. (row_at d.impl.rows j).span) (λ j e. not (holds3 d s (row_at d.impl.rows j) e)) (λ j e. (j, e))
          x (ap (λ b. cond b (fails_at s) pass) (sym e) ∙ found.fails) in
          let r : Row = row_at d.impl.rows p.row in
          let is = row_at_is d.impl.rows p.row p.sum p.sum_below in
          third_fails (record { in_size = values_below (sizes d.impl) found.at below; invariant = holds }) is
          (says_no (by_third s (apart.others holds) p.row r p.sum is p.sum_below) (not-true (holds3 d s r p.sum) p.fails))

pub measurable_or_not : (d : Design) → Measurable d ⊎ Unmeasurable d
measurable_or_not d = go (first_in (lacks d) (states d) 0) refl
  where
    by : (tenth : (s : State) → InSize d.impl s → MeasureApart d s) (o : Outcome (ℕ × ℕ)) → first_in (tried d tenth) (states d) 0 ≡ o → Measurable d ⊎ Unmeasurable d
    by tenth pass h = inl (record { third = all_meet d tenth h; tenth = tenth })
    by tenth (fail x) h = inr (one_fails d tenth x h)

    go : (o : Outcome ℕ) → first_in (lacks d) (states d) 0 ≡ o → Measurable d ⊎ Unmeasurable d
    go pass h = let tenth = all_have d h in by tenth (first_in (tried d tenth) (states d) 0) refl
    go (fail x) h = inr (one_lacks d x h)
