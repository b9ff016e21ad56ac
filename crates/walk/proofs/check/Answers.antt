-- The start, then the states.
use Rattle.walk.proofs.Walking as laws
use Rattle.walk.proofs.check.Goals as goal

pub returns-then-not-holds : goal.returns-then-not-holds
returns-then-not-holds c = search laws.check_start

pub returns : goal.returns
returns c = search laws.check_states
