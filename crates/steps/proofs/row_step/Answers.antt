-- The row in its line; no row before the first and past the last.
use Rattle.steps.proofs.Arrays as laws
use Rattle.steps.proofs.row_step.Goals as goal

pub returns-then-k-eq0 : goal.returns-then-k-eq0
returns-then-k-eq0 c = search laws.step_none

pub returns-then-process-k : goal.returns-then-process-k
returns-then-process-k c = search laws.step_past

pub returns : goal.returns
returns c = search laws.step_there
