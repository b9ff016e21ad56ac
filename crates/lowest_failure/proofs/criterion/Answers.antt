-- Criterion 2, or one of the others.
use Rattle.lowest_failure.proofs.Search as laws
use Rattle.lowest_failure.proofs.criterion.Goals as goal

pub returns-then-n-eq2 : goal.returns-then-n-eq2
returns-then-n-eq2 c = search laws.arm2

pub returns : goal.returns
returns c = search laws.arm_others
