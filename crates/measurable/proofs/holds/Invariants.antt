-- The loop over the states.
use Rattle.measurable.proofs.Measurable as laws
use Rattle.measurable.proofs.holds.Given as goal

abbrev pub invariant-loop-k : goal.invariant-loop-k
invariant-loop-k l = laws.StatesTo l.lines.fields.now l.lines.starts.now l.shape l.k
