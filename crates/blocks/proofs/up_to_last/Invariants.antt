-- What is left of the set has all that it has from the i-th parameter on.
use Rattle.blocks.proofs.Laws as laws
use Rattle.blocks.proofs.up_to_last.Given as goal

abbrev pub invariant-loop-i : goal.invariant-loop-i
invariant-loop-i l = laws.Left l.set l.rest l.i
