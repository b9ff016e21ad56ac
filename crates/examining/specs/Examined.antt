-- "advance examines the next n states, or those that remain" (01, "The desk"), on the arrays of a desk: the phase that this leaves, the next
-- state, and how many were examined.
use Rattle.std.specs.Prelude.{ℕ, ◌+◌, ◌-◌, min, cond, List, eqb, leb}
use Rattle.verdicts.specs.declared.Walked.{Walked}
use Rattle.design.specs.declared.Counts.{Counts}
use Rattle.layout.specs.Sizes.{state_count_in}
use Rattle.start.specs.Start.{start_in, start_failure_in, acceptance_in}
use Rattle.walk.specs.Walk.{walked_under}
use Rattle.answers.specs.declared.Phase.TheVariants as phase
use Rattle.phases.specs.Phases.{phase_after}
use Rattle.examining.specs.declared.Examined.{Examined}

-- how many those are
unfoldable pub ahead : ℕ → ℕ → ℕ → ℕ
ahead n next total = min n (total - next)

-- after a walk from `next` on, of a design with so many states
unfoldable pub walked_to : List ℕ → List ℕ → Counts → ℕ → ℕ → Walked → Examined
walked_to f s c next total w =
    let at = next + w.count in
    record { phase = phase_after w.outcome (leb total at) (acceptance_in f s c); next = at; count = w.count }

unfoldable pub examined_next : List ℕ → List ℕ → Counts → List ℕ → ℕ → ℕ → Examined
examined_next f s c p next n =
    let total = state_count_in f s c in
    walked_to f s c next total (walked_under f s c p (ahead n next total) next)

-- "how many states it examined, the failing one included; 0 if criterion 1 failed"
unfoldable pub failed_start : List ℕ → List ℕ → Counts → Examined
failed_start f s c = record { phase = phase.Failed (start_failure_in f s c); next = 0; count = 0 }

-- "Criterion 1 comes before state 0, in the first advance"
unfoldable pub examined_from : List ℕ → List ℕ → Counts → List ℕ → ℕ → ℕ → Examined
examined_from f s c p next n =
    cond (eqb next 0) (cond (start_in f s c) (examined_next f s c p next n) (failed_start f s c)) (examined_next f s c p next n)
