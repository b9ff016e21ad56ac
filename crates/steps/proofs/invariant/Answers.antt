-- The formula in the line of the invariant.
use Rattle.steps.proofs.Arrays as laws
use Rattle.steps.proofs.invariant.Goals as goal

pub returns : goal.returns
returns c = search laws.invariant_is
