-- As many as are needed.
use Rattle.defined.proofs.Laws as laws
use Rattle.defined.proofs.row.Goals as goal

pub returns : goal.returns
returns c = search laws.asked_enough
