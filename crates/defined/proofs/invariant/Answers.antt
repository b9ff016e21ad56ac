-- The formula in its line.
use Rattle.defined.proofs.Laws as laws
use Rattle.defined.proofs.invariant.Goals as goal

pub returns : goal.returns
returns c = search laws.invariant_is
