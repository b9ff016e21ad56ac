-- The loop over the rows: no marked step so far.
use Rattle.marked_edges.proofs.Edges as laws
use Rattle.marked_edges.proofs.next.Given as goal

abbrev pub invariant-loop-i : goal.invariant-loop-i
invariant-loop-i l = laws.Passed l.lines.fields.now l.lines.starts.now l.shape l.v l.from l.i l.sum
