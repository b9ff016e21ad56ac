-- `after` goes by the outcome of the walk.
use Rattle.phases.proofs.Laws as laws
use Rattle.phases.proofs.after.Goals as goal

pub returns-in-Fail : goal.returns-in-Fail
returns-in-Fail c = search laws.phase_failed

pub returns-then-ended : goal.returns-then-ended
returns-then-ended c = search laws.phase_accepted

pub returns-else-ended : goal.returns-else-ended
returns-else-ended c = search laws.phase_open
