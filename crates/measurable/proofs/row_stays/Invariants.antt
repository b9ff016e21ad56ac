-- The loop over the sum values: for all so far the row leads inside.
use Prim.Native.Nat.{◌-◌}
use Rattle.measurable.proofs.Measurable as laws
use Rattle.measurable.proofs.row_stays.Given as goal

abbrev pub invariant-loop-look : goal.invariant-loop-look
invariant-loop-look l = laws.StaysTo l.lines.fields.now l.lines.starts.now l.v l.shape l.i l.row l.sum

abbrev pub decreases-loop-look : goal.decreases-loop-look
decreases-loop-look l = l.row.looks - l.sum
