-- "The check is decided when a criterion fails or the last state is done." (01, "The desk"): the phase by the outcome of a walk and whether it
-- ended there, and by how the design is accepted, if it is (02, order 6).
use Rattle.std.specs.Prelude.{Bool, true, false}
use Rattle.verdicts.specs.declared.Outcome.{Outcome}
use Rattle.verdicts.specs.declared.Outcome.TheVariants.{Pass, Fail}
use Rattle.verdicts.specs.declared.Acceptance.{Acceptance}
use Rattle.answers.specs.declared.Phase.{Phase}
use Rattle.answers.specs.declared.Phase.TheVariants.{Open, Accepted, Failed}

abbrev pub phase_after : Outcome → Bool → Acceptance → Phase
phase_after (Fail f) ended how = Failed f
phase_after Pass true how = Accepted how
phase_after Pass false how = Open
