-- The mapped state is below its sizes.
use Rattle.lowest_failure.proofs.Tests as laws
use Rattle.lowest_failure.proofs.Here.holds2.Goals as goal

pub returns : goal.returns
returns c = search laws.holds2_is
