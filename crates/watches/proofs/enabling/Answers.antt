-- By the row.
use Rattle.watches.proofs.Laws as laws
use Rattle.watches.proofs.enabling.Goals as goal

pub returns : goal.returns
returns c = search laws.enabling_is
