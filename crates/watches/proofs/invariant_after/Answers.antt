-- The formula in the line of the invariant.
use Rattle.watches.proofs.Laws as laws
use Rattle.watches.proofs.invariant_after.Goals as goal

pub returns : goal.returns
returns c = search laws.invariant_after_is
