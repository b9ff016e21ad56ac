-- What is left of the walk gives the whole.
use mathlib.Core.Path.{◌≡◌}
use Prim.Native.Nat.{◌≤◌}
use Rattle.walk.specs.Examine.{walk_on}
use Rattle.walk.proofs.Walking as laws
use Rattle.walk.proofs.walk_on.Given as goal

abbrev pub invariant-loop-i : goal.invariant-loop-i
invariant-loop-i l =
    (l.i ≤ l.n) × (laws.walk_left l.lines.fields.now l.lines.starts.now l.plan l.shape l.n l.from l.i ≡ walk_on l.lines.fields.now l.lines.starts.now l.shape l.plan l.n l.from)
