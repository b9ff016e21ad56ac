-- A set for each row.
use Prim.Native.Nat.{◌≤◌}
use Rattle.design.specs.Loaded.{design_at}
use Rattle.recall.specs.Recall.{SetsTo}
use Rattle.recall.proofs.put_replies.Given as goal

abbrev pub invariant-loop-i : goal.invariant-loop-i
invariant-loop-i l =
    (l.i ≤ l.shape.specification.rows.count) × SetsTo (design_at l.lines.fields.now l.lines.starts.now l.shape) l.out l.shape.implementation.rows.count l.i
