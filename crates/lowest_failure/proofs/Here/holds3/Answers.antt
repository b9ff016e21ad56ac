-- Criterion 3, by the law of what is returned.
use Rattle.lowest_failure.proofs.Tests as laws
use Rattle.lowest_failure.proofs.Here.holds3.Goals as goal

pub returns : goal.returns
returns c = search laws.holds3_is
