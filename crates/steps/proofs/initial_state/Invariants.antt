-- What is left to store gives the whole.
use mathlib.Core.Path.{◌≡◌}
use lib.ListN.{length}
use Rattle.steps.specs.Arrays.{initial_in}
use Rattle.steps.proofs.Arrays as laws
use Rattle.steps.proofs.initial_state.Given as goal

abbrev pub invariant-loop-i : goal.invariant-loop-i
invariant-loop-i l =
    (length l.out ≡ 8) × (laws.initial_left l.lines.fields.now l.lines.starts.now l.process l.out l.i ≡ initial_in l.lines.fields.now l.lines.starts.now l.process)
