-- How far a check has come, for one that is advanced in pieces: what is kept while it is open, how a piece keeps it, and that what a
-- piece ends with is the verdict of the whole check. For every design; what that verdict means is demand 2 (proofs/Demand2).
use mathlib.Core.Path.{◌≡◌, refl, sym, ◌∙◌, ap, subst}
use mathlib.Core.Logic.{◌≢◌}
use mathlib.Core.Bool.{Bool, true, false}
use Prim.Native.Nat.{ℕ, suc, ◌+◌, ◌≤◌}
use native.Mathlib.Omega.{arith}
use borrow.Author.Tests.{leb-true, leb-false}
use lib.Dec.{leb}
use Rattle.foundation.specs.First.{Outcome, pass, fail, AllPass}
use Rattle.foundation.specs.Walk.{walk}
use Rattle.foundation.proofs.Walk.{pass_more, fail_more, all_walk, walk_fails, fail_count}
use Rattle.criteria.specs.Design.{Design, Admitted, states}
use Rattle.criteria.specs.Failure.{Failure, start_failure}
use Rattle.criteria.specs.Verdict.{accepted, failed}
use Rattle.decision.specs.Tests.{holds1}
use Rattle.decision.specs.Examine.{examine}
use Rattle.decision.proofs.Examine.{fails_there}
use Rattle.decision.specs.Verdict.{over_states, checked, acceptance_of, by_outcome, verdict_of}

-- criterion 1 was tried and holds, and the first n states pass
pub record Progress (d : Design) (n : ℕ) : Type 0 where
  pub start : holds1 d ≡ true
  pub passed : AllPass (examine d) n 0

module _ (d : Design) where
  pub begins : holds1 d ≡ true → Progress d 0
  begins h = record { start = h; passed = λ j l u. absurd (omega arith) }

  -- k states more that pass
  pub goes_on : (n k : ℕ) → Progress d n → (walk (examine d) k n).outcome ≡ pass → Progress d (n + k)
  goes_on n k p h = record { start = p.start; passed = pass_more (examine d) n k p.passed h }

  -- the start fails
  pub ends_at_start : holds1 d ≡ false → verdict_of d ≡ failed (start_failure d)
  unfolding checked
  ends_at_start h = rw h

  by_walk : holds1 d ≡ true → verdict_of d ≡ by_outcome (acceptance_of d) (over_states d)
  unfolding checked
  by_walk h = rw h

  -- the last state is done
  pub ends_well : Progress d (states d) → verdict_of d ≡ accepted (acceptance_of d)
  ends_well p = by_walk p.start ∙ ap (λ w. by_outcome (acceptance_of d) w.outcome) (all_walk (examine d) (states d) 0 p.passed)

  -- a state fails
  pub ends_badly : (n k : ℕ) (x : Failure) → Progress d n → n + k ≤ states d → (walk (examine d) k n).outcome ≡ fail x → verdict_of d ≡ failed x
  ends_badly n k x p l h = by_walk p.start ∙ ap (by_outcome (acceptance_of d)) (fail_more (examine d) n k (states d) x p.passed h l)

  -- ---- where a check ends

  module _ (a : Admitted d) where
    -- the failing state is the last that is counted
    pub fails_at_lem : (n k : ℕ) (x : Failure) → n + k ≤ states d → (walk (examine d) k n).outcome ≡ fail x
        → (n + (walk (examine d) k n).count ≡ suc x.state) × (x.criterion ≢ 1)
    fails_at_lem n k x l h =
        let f = walk_fails (examine d) k n x h in
        let b = f.below in
        let t = fails_there d a f.at (omega arith) x f.fails in
        (fail_count (examine d) k n x h ∙ ap suc (sym t.0), t.1)

    -- states that pass come before a failing one
    pub fails_later : (n : ℕ) (x : Failure) → Progress d n → n ≤ states d → verdict_of d ≡ failed x → (n ≤ x.state) × (x.criterion ≢ 1)
    fails_later n x p l v =
        let failing : over_states d ≡ fail x = outcome_of_lem (over_states d) (sym (by_walk p.start) ∙ v) in
        let f = walk_fails (examine d) (states d) 0 x failing in
        let b = f.below in
        let t = fails_there d a f.at (omega arith) x f.fails in
        (subst (λ s. n ≤ s) (sym t.0) (not_before f.at f.fails), t.1)
      where
        outcome_of_lem : (o : Outcome Failure) → by_outcome (acceptance_of d) o ≡ failed x → o ≡ fail x
        outcome_of_lem pass e = let z : ◌≡◌ {A = ℕ} 0 1 = cc in absurd (omega arith)
        outcome_of_lem (fail y) e = cc

        not_before : (j : ℕ) → examine d j ≡ fail x → n ≤ j
        not_before j e = go (leb n j) refl
          where
            go : (b : Bool) → leb n j ≡ b → n ≤ j
            go true q = leb-true n j q
            go false q =
                let under = leb-false n j q in
                let y : pass ≡ fail x = sym (p.passed j (omega arith) (omega arith)) ∙ e in
                let z : ◌≡◌ {A = ℕ} 0 1 = cc in
                absurd (omega arith)
