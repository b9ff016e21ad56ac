-- Two sets for each row.
use Prim.Native.Nat.{◌≤◌}
use Rattle.design.specs.Loaded.{design_at}
use Rattle.recall.specs.Recall.{SetsTo}
use Rattle.recall.proofs.put_rows.Given as goal

abbrev pub invariant-loop-i : goal.invariant-loop-i
invariant-loop-i l = (l.i ≤ l.shape.implementation.rows.count) × SetsTo (design_at l.lines.fields.now l.lines.starts.now l.shape) l.out l.i 0
