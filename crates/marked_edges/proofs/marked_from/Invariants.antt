-- The loop over the sum values: for none so far is the step marked.
use Prim.Native.Nat.{◌-◌}
use Rattle.marked_edges.proofs.Edges as laws
use Rattle.marked_edges.proofs.marked_from.Given as goal

abbrev pub invariant-loop-look : goal.invariant-loop-look
invariant-loop-look l = laws.NoneTo l.fields l.row l.v l.from l.sum

abbrev pub decreases-loop-look : goal.decreases-loop-look
decreases-loop-look l = l.row.looks - l.sum
