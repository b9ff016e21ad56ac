-- At the initial state.
use Rattle.start.proofs.FirstStep as laws
use Rattle.start.proofs.acceptance.Goals as goal

pub returns-then-no_internal : goal.returns-then-no_internal
returns-then-no_internal c = search laws.as_is

pub returns-else-no_internal : goal.returns-else-no_internal
returns-else-no_internal c = search laws.after_internal
