-- Demand 2 of a design: the verdict that is computed is acceptance exactly if all ten criteria hold, as it is exactly if besides no internal
-- row is enabled in the initial state, and names x exactly if x is the lowest failure. And one verdict only is so.
use mathlib.Core.Path.{◌≡◌, refl, sym, ◌∙◌, ap}
use mathlib.Core.Logic.{◌↔◌}
use mathlib.Core.Bool.{Bool, true, false, cond}
use Prim.Native.Nat.{ℕ}
use native.Mathlib.Omega.{arith}
use Rattle.foundation.specs.First.{Outcome, pass, fail}
use Rattle.foundation.proofs.Lowest.{passes_exactly, fails_exactly}
use Rattle.foundation.proofs.Reflects.{says_yes, is_so}
use Rattle.verdicts.specs.declared.Acceptance.TheVariants.{AsIs, AfterInternal}
use Rattle.criteria.specs.Design.{Design, State, Admitted, initial_state}
use Rattle.criteria.specs.Step.{NoInternal, SomeInternal}
use Rattle.criteria.specs.Criteria.{OthersHave, Meets}
use Rattle.criteria.specs.Failure.{Failure, turn, Fails}
use Rattle.criteria.specs.Verdict.{Acceptance, Verdict, accepted, failed, IsAccepted, Demand2}
use Rattle.criteria.proofs.Failure.{failure_turns}
use Rattle.criteria.proofs.Parameters.{initial_in_size}
use Rattle.decision.specs.Tests.{no_internal_b}
use Rattle.decision.specs.Verdict.{checked, acceptance_of, by_outcome, verdict_of}
use Rattle.decision.proofs.NoInternal.{by_no_internal, some_internal}
use Rattle.decision.proofs.Verdict.{meets_exactly, check_settled}

-- a verdict is its outcome, but for the way of acceptance
abbrev outcome_of : Verdict → Outcome Failure
outcome_of (accepted how) = pass
outcome_of (failed x) = fail x

same_outcome : (how : Acceptance) (o : Outcome Failure) → outcome_of (by_outcome how o) ≡ o
same_outcome how pass = refl
same_outcome how (fail x) = refl

by_verdict : (how : Acceptance) (o : Outcome Failure) (v : Verdict) → by_outcome how o ≡ v → o ≡ outcome_of v
by_verdict how o v h = sym (same_outcome how o) ∙ ap outcome_of h

pub same_way : {a b : Acceptance} → accepted a ≡ accepted b → a ≡ b
same_way e = cc

-- the two ways are told apart
two_ways : AsIs ≡ AfterInternal → ⊥
two_ways e = let z : ◌≡◌ {A = ℕ} 0 1 = cc in omega arith

module _ (d : Design) (a : Admitted d) where
  abbrev s : State
  s = initial_state d.impl

  passes_meets : (checked d ≡ pass) ↔ Meets d
  passes_meets =
      let passes = passes_exactly turn failure_turns (Fails d) (check_settled d a) in
      let meets = meets_exactly d a in
      (λ h. meets.1 (passes.0 h), λ m. passes.1 (meets.0 m))

  accepted_meets : IsAccepted (verdict_of d) → Meets d
  accepted_meets (how, h) = passes_meets.0 (by_verdict (acceptance_of d) (checked d) (accepted how) h)

  meets_accepted : Meets d → verdict_of d ≡ accepted (acceptance_of d)
  meets_accepted m = ap (by_outcome (acceptance_of d)) (passes_meets.1 m)

  -- ---- which way

  all_have : Meets d → OthersHave d s
  all_have m = (m.tenth s (initial_in_size d.impl a.impl_sizes)).apart.others m.start.invariant

  is_way : (how : Acceptance) → verdict_of d ≡ accepted how → acceptance_of d ≡ how
  is_way how h = same_way (sym (meets_accepted (accepted_meets (how, h))) ∙ h)

  no_internal_way : (b : Bool) → no_internal_b d s ≡ b → acceptance_of d ≡ cond b AsIs AfterInternal
  unfolding acceptance_of
  no_internal_way b h = rw h

  by_way : (b : Bool) → no_internal_b d s ≡ b → (how : Acceptance) → verdict_of d ≡ accepted how → cond b AsIs AfterInternal ≡ how
  by_way b q how h = sym (no_internal_way b q) ∙ is_way how h

  as_is : (verdict_of d ≡ accepted AsIs) ↔ (Meets d × NoInternal d.impl s)
  as_is = (
    λ h. let m = accepted_meets (AsIs, h) in (m, says_yes (by_no_internal d s (all_have m)) (quiet _ refl (by_way _ refl AsIs h))),
    λ x. meets_accepted x.0 ∙ ap accepted (no_internal_way true (is_so (by_no_internal d s (all_have x.0)) x.1)),
  )
    where
      quiet : (b : Bool) → no_internal_b d s ≡ b → cond b AsIs AfterInternal ≡ AsIs → no_internal_b d s ≡ true
      quiet true q h = q
      quiet false q h = absurd (two_ways (sym h))

  after_internal : (verdict_of d ≡ accepted AfterInternal) ↔ (Meets d × SomeInternal d.impl s)
  after_internal = (
    λ h. let m = accepted_meets (AfterInternal, h) in (m, some_internal d s (all_have m) (loud _ refl (by_way _ refl AfterInternal h))),
    λ x. meets_accepted x.0 ∙ ap accepted (stepped x.0 x.1 _ refl),
  )
    where
      loud : (b : Bool) → no_internal_b d s ≡ b → cond b AsIs AfterInternal ≡ AfterInternal → no_internal_b d s ≡ false
      loud true q h = absurd (two_ways h)
      loud false q h = q

      stepped : Meets d → SomeInternal d.impl s → (b : Bool) → no_internal_b d s ≡ b → acceptance_of d ≡ AfterInternal
      stepped m x true q =
          absurd (says_yes (by_no_internal d s (all_have m)) q x.at x.row x.sum x.is_row x.internal x.enabled)
      stepped m x false q = no_internal_way false q

  pub demand2 : Demand2 d (verdict_of d)
  demand2 =
      let fails = fails_exactly turn failure_turns (Fails d) (check_settled d a) in
      record {
        accepts = (accepted_meets, λ m. (acceptance_of d, meets_accepted m));
        as_is = as_is;
        after_internal = after_internal;
        reports = λ x. (λ h. (fails x).0 (by_verdict (acceptance_of d) (checked d) (failed x) h), λ l. ap (by_outcome (acceptance_of d)) ((fails x).1 l));
      }

pub one_verdict : (d : Design) (v w : Verdict) → Demand2 d v → Demand2 d w → v ≡ w
one_verdict d (accepted AsIs) w p q = sym (q.as_is.1 (p.as_is.0 refl))
one_verdict d (accepted AfterInternal) w p q = sym (q.after_internal.1 (p.after_internal.0 refl))
one_verdict d (failed x) w p q = sym ((q.reports x).1 ((p.reports x).0 refl))
