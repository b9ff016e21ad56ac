-- Row after row.
use Prim.Native.Nat.{◌≤◌}
use Rattle.recall.specs.Recall.{RepliesTo}
use Rattle.recall.proofs.replies_pass.Given as goal

abbrev pub invariant-loop-i : goal.invariant-loop-i
invariant-loop-i l =
    (l.i ≤ l.shape.specification.rows.count) × RepliesTo l.lines.fields.now l.lines.starts.now l.shape l.initial.watch l.v l.watch l.i l.quiet
