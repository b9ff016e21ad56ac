-- Turn by turn.
use mathlib.Core.Path.{◌≡◌}
use Prim.Native.Nat.{◌+◌, ◌-◌, ◌≤◌}
use Rattle.walk.specs.Turns.{Knows}
use Rattle.walk.proofs.Turning as laws
use Rattle.walk.proofs.walk_by_turns.Given as goal

abbrev pub invariant-loop-at : goal.invariant-loop-at
invariant-loop-at l =
    (l.end ≤ 65536) × ((l.end ≡ l.from + l.n) × (laws.Walks l.lines.fields.now l.lines.starts.now l.plan l.shape l.n l.from l.at × Knows l.lines.fields.now l.lines.starts.now l.shape l.watch l.t l.last))

abbrev pub decreases-loop-at : goal.decreases-loop-at
decreases-loop-at l = l.end - l.at
