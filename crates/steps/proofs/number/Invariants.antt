-- The loop over the values: what is left to count gives the whole.
use mathlib.Core.Path.{◌≡◌}
use Prim.Native.Nat.{◌≤◌}
use Rattle.steps.specs.Arrays.{number_in}
use Rattle.steps.proofs.Arrays as laws
use Rattle.steps.proofs.number.Given as goal

abbrev pub invariant-loop-i : goal.invariant-loop-i
invariant-loop-i l =
    (l.k ≤ 65536) × (laws.number_left l.lines.fields.now l.lines.starts.now l.v l.process l.i l.k ≡ number_in l.lines.fields.now l.lines.starts.now l.process l.v)
