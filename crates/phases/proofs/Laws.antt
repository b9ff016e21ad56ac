-- What each arm returns is what specs/Phases says.
use mathlib.Core.Path.{◌≡◌}
use mathlib.Core.Bool.{Bool, true, false}
use Rattle.verdicts.specs.declared.Failure.{Failure}
use Rattle.verdicts.specs.declared.Outcome.{Outcome}
use Rattle.verdicts.specs.declared.Outcome.TheVariants.{Pass, Fail}
use Rattle.verdicts.specs.declared.Acceptance.{Acceptance}
use Rattle.answers.specs.declared.Phase.TheVariants.{Open, Accepted, Failed}
use Rattle.phases.specs.Phases.{phase_after}

module _ (o : Outcome) (ended : Bool) (how : Acceptance) where
  pub phase_failed : (f : Failure) → o ≡ Fail f → Failed f ≡ phase_after o ended how
  phase_failed f h = rw h

  pub phase_accepted : (a : Acceptance) → o ≡ Pass → ended ≡ true → a ≡ how → Accepted a ≡ phase_after o ended how
  phase_accepted a h e ea = rw (h, e, ea)

  pub phase_open : o ≡ Pass → ended ≡ false → Open ≡ phase_after o ended how
  phase_open h e = rw (h, e)
