-- At the initial state.
use Rattle.start.proofs.Starting as laws
use Rattle.start.proofs.failure.Goals as goal

pub returns : goal.returns
returns c = search laws.start_failed
