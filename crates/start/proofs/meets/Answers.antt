-- The invariant, and the mapped state against the specification's, each with its value.
use Rattle.start.proofs.Starting as laws
use Rattle.start.proofs.meets.Goals as goal

pub returns : goal.returns
returns c = search laws.start_is
