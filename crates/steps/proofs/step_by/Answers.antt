-- Condition, data and next values, each from where the one before ended.
use Rattle.steps.proofs.Arrays as laws
use Rattle.steps.proofs.step_by.Goals as goal

pub returns : goal.returns
returns c = search laws.step_is
