-- The values in the line of the mapping.
use Rattle.watches.proofs.Laws as laws
use Rattle.watches.proofs.mapping_reads.Goals as goal

pub returns : goal.returns
returns c = search laws.mapping_is
