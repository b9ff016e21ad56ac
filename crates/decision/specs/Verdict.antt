-- The verdict as it is computed: criterion 1, then the walk over all states; and, of a design that passes, a look at the initial state.
use Rattle.foundation.specs.First.{Outcome, pass, fail}
use Rattle.std.specs.Prelude.{cond}
use Rattle.foundation.specs.Walk.{walk}
use Rattle.verdicts.specs.declared.Acceptance.TheVariants.{AsIs, AfterInternal}
use Rattle.criteria.specs.Design.{Design, states, initial_state}
use Rattle.criteria.specs.Failure.{Failure, start_failure}
use Rattle.criteria.specs.Verdict.{Acceptance, Verdict, accepted, failed}
use Rattle.decision.specs.Tests.{holds1, no_internal_b}
use Rattle.decision.specs.Examine.{examine}

-- what all states come to
abbrev pub over_states : Design → Outcome Failure
over_states d = (walk (examine d) (states d) 0).outcome

-- "Criterion 1 comes before state 0 .. Then states rise"
unfoldable pub checked : Design → Outcome Failure
checked d = let w = over_states d in cond (holds1 d) w (fail (start_failure d))

-- how it is accepted, if it is
unfoldable pub acceptance_of : Design → Acceptance
acceptance_of d = cond (no_internal_b d (initial_state d.impl)) AsIs AfterInternal

abbrev pub by_outcome : Acceptance → Outcome Failure → Verdict
by_outcome how pass = accepted how
by_outcome how (fail x) = failed x

abbrev pub verdict_of : Design → Verdict
verdict_of d = by_outcome (acceptance_of d) (checked d)
