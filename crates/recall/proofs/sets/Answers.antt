-- Rows, replies, the mapping.
use Rattle.recall.proofs.Setting as laws
use Rattle.recall.proofs.sets.Goals as goal

pub returns : goal.returns
returns c = search laws.sets_end
