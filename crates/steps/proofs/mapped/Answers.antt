-- Stored over zeros.
use Rattle.steps.proofs.Arrays as laws
use Rattle.steps.proofs.mapped.Goals as goal

pub returns : goal.returns
returns c = search laws.mapped_is
