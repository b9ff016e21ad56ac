-- Row after row.
use Prim.Native.Nat.{◌≤◌}
use Rattle.recall.specs.Recall.{RowsTo}
use Rattle.recall.proofs.rows_pass.Given as goal

abbrev pub invariant-loop-i : goal.invariant-loop-i
invariant-loop-i l =
    (l.i ≤ l.shape.implementation.rows.count) × RowsTo l.lines.fields.now l.lines.starts.now l.shape l.initial.watch l.v l.watch l.i l.quiet
