-- The last of the risks.
use Rattle.tenth.proofs.Laws as laws
use Rattle.tenth.proofs.sure.Goals as goal

pub returns : goal.returns
returns c = search laws.sure_is
