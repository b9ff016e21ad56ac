-- By the crate reads.
use Rattle.recall.proofs.Looking as laws
use Rattle.recall.proofs.since.Goals as goal

pub returns : goal.returns
returns c = search laws.since_is
