-- What the code's answers say, in the words of the crates foundation and criteria, and back.
use Rattle.std.specs.Prelude.{ℕ, Option}
use Rattle.foundation.specs.First.{Outcome, pass, fail}
use Rattle.foundation.specs.Walk.{Walked}
use Rattle.criteria.specs.Failure.{Failure, failure_at, missing}
use Rattle.decision.specs.Examine.{named}
use Rattle.lowest_failure.specs.Search.{told_place}
use Rattle.verdicts.specs.declared.Place.{Place}
use Rattle.verdicts.specs.declared.Outcome.{Outcome as Answer}
use Rattle.verdicts.specs.declared.Outcome.TheVariants.{Pass, Fail}
use Rattle.verdicts.specs.declared.Walked.{Walked as WalkAnswer}

abbrev pub told : Answer → Outcome Failure
told Pass = pass
told (Fail x) = fail x

abbrev pub told_walked : WalkAnswer → Walked Failure
told_walked w = record { outcome = told w.outcome; count = w.count }

-- no state was walked
abbrev pub no_walk : Walked Failure
no_walk = record { outcome = pass; count = 0 }

-- what was found at the state with a number
unfoldable pub named_by : ℕ → Option Place → Outcome Failure
named_by n r = named n (told_place r)

-- a value is missing at the state with a number
unfoldable pub lacking_at : ℕ → Outcome Failure
lacking_at n = fail (failure_at n missing)

-- ---- the other way round: what was found, in the code's own types

abbrev pub said : Outcome Failure → Answer
said pass = Pass
said (fail x) = Fail x

abbrev pub said_walked : Walked Failure → WalkAnswer
said_walked w = record { outcome = said w.outcome; count = w.count }
