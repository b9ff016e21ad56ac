-- The values in its line.
use Rattle.defined.proofs.Laws as laws
use Rattle.defined.proofs.mapping.Goals as goal

pub returns : goal.returns
returns c = search laws.mapping_is
