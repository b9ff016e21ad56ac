-- Stored over zeros.
use Rattle.steps.proofs.Arrays as laws
use Rattle.steps.proofs.values.Goals as goal

pub returns : goal.returns
returns c = search laws.padded_is
