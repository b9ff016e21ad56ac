-- The loop over the rows: no span so far is over 256.
use Prim.Native.Nat.{◌+◌}
use Rattle.measure.proofs.Room as laws
use Rattle.measure.proofs.spans_fit.Given as goal

abbrev pub invariant-loop-i : goal.invariant-loop-i
invariant-loop-i l = laws.SpansTo l.lines.fields.now l.lines.starts.now l.process (l.i + 1)
