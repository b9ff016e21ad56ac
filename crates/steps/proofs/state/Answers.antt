-- Stored over zeros.
use Rattle.steps.proofs.Arrays as laws
use Rattle.steps.proofs.state.Goals as goal

pub returns : goal.returns
returns c = search laws.state_is
