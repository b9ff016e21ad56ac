-- By the array of what the mapped values read.
use Rattle.watches.proofs.Laws as laws
use Rattle.watches.proofs.internal.Goals as goal

pub returns : goal.returns
returns c = search laws.internal_is
