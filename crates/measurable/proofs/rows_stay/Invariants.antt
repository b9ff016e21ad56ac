-- The loop over the rows.
use Rattle.measurable.proofs.Measurable as laws
use Rattle.measurable.proofs.rows_stay.Given as goal

abbrev pub invariant-loop-i : goal.invariant-loop-i
invariant-loop-i l = laws.RowsTo l.lines.fields.now l.lines.starts.now l.v l.shape l.i
