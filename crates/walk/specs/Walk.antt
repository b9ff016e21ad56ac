-- What the public functions compute, for every arrays, counts and numbers: the walk over n states of the design in the arrays from a number
-- on, and a whole check. Where the counts do not fit, or there are not so many states, nothing is walked. The walk goes by a
-- plan; by the plan of the arrays it is the walk over the states of the design (`by_plan` in proofs/Walking).
use Rattle.std.specs.Prelude.{Bool, ◌&&◌, cond, List, ℕ, ◌+◌, min, leb}
use Rattle.foundation.specs.Walk.{Walked, walk}
use Rattle.criteria.specs.Design.{states}
use Rattle.criteria.specs.Failure.{Failure}
use Rattle.decision.specs.Examine.{examine}
use Rattle.design.specs.Loaded.{design_in}
use Rattle.design.specs.declared.Counts.{Counts}
use Rattle.layout.specs.Sizes.{counts_fit, shape_of, state_count_in}
use Rattle.start.specs.Start.{start_in, start_failure_in}
use Rattle.plan.specs.Plan.{plan_in}
use Rattle.walk.specs.Told.{no_walk, said_walked}
use Rattle.walk.specs.Examine.{walk_on}
use Rattle.verdicts.specs.declared.Walked.{Walked as WalkAnswer}
use Rattle.verdicts.specs.declared.Outcome.{Outcome}
use Rattle.verdicts.specs.declared.Outcome.TheVariants.{Fail}

-- there are the states with the numbers from, .., from + n - 1, and their numbers fit 16 bits
abbrev pub states_there : List ℕ → List ℕ → Counts → ℕ → ℕ → Bool
states_there f s c n from = counts_fit c && leb (from + n) (min (states (design_in f s c)) 65536)

unfoldable pub walk_in : List ℕ → List ℕ → Counts → ℕ → ℕ → Walked Failure
walk_in f s c n from = let w = walk (examine (design_in f s c)) n from in cond (states_there f s c n from) w no_walk

-- the plan of the arrays, and the walk by any plan
unfoldable pub plan_of : List ℕ → List ℕ → Counts → List ℕ
plan_of f s c = plan_in f s (shape_of c)

unfoldable pub walk_by : List ℕ → List ℕ → Counts → List ℕ → ℕ → ℕ → Walked Failure
walk_by f s c p n from = cond (states_there f s c n from) (walk_on f s (shape_of c) p n from) no_walk

unfoldable pub walked_under : List ℕ → List ℕ → Counts → List ℕ → ℕ → ℕ → WalkAnswer
walked_under f s c p n from = said_walked (walk_by f s c p n from)

-- a whole check: criterion 1, then all states
unfoldable pub checked_in : List ℕ → List ℕ → Counts → Outcome
checked_in f s c = cond (start_in f s c) (walked_under f s c (plan_of f s c) (state_count_in f s c) 0).outcome (Fail (start_failure_in f s c))
