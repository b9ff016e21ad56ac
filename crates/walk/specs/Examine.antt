-- The examination of the state with a number, and the walk over such, as the code makes them from a desk's arrays and a plan p. Where
-- the number is that of a state and the plan is right, they are those of decision/specs/Examine (proofs/Walking).
use Rattle.std.specs.Prelude.{List, cond, ℕ}
use Rattle.foundation.specs.First.{Outcome, pass}
use Rattle.foundation.specs.Walk.{Walked, walk}
use Rattle.criteria.specs.Failure.{Failure}
use Rattle.decision.specs.Examine.{named, first_failing}
use Rattle.design.specs.Loaded.{design_at}
use Rattle.design.specs.declared.Shape.{Shape}
use Rattle.steps.specs.Arrays.{state_in, invariant_in, mapped_in}
use Rattle.state_passes.specs.Passes.{passes_in}
use Rattle.tenth.specs.Tenth.{tenth_by}
use Rattle.walk.specs.Told.{lacking_at}

-- of the state v with the number k, where all have values and the invariant holds
unfoldable pub inside_at : List ℕ → List ℕ → Shape → List ℕ → ℕ → List ℕ → Outcome Failure
inside_at f s h p k v = let o = named k (first_failing (design_at f s h) v) in cond (passes_in f s h p v (mapped_in f s h v)) pass o

-- of any
unfoldable pub examine_at : List ℕ → List ℕ → Shape → List ℕ → ℕ → List ℕ → Outcome Failure
examine_at f s h p k v = cond (tenth_by f s h p v) (cond (invariant_in f s h v) (inside_at f s h p k v) pass) (lacking_at k)

unfoldable pub examine_in : List ℕ → List ℕ → Shape → List ℕ → ℕ → Outcome Failure
examine_in f s h p k = examine_at f s h p k (state_in f s h.implementation k)

unfoldable pub walk_on : List ℕ → List ℕ → Shape → List ℕ → ℕ → ℕ → Walked Failure
walk_on f s h p n from = walk (λ k. examine_in f s h p k) n from
