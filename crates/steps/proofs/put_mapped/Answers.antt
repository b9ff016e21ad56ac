-- The values in the line of the mapping.
use Rattle.steps.proofs.Arrays as laws
use Rattle.steps.proofs.put_mapped.Goals as goal

pub returns : goal.returns
returns c = search laws.mapped_put
