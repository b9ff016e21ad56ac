-- An arm for each criterion.
use Rattle.lowest_failure.proofs.Search as laws
use Rattle.lowest_failure.proofs.Here.holds.Goals as goal

pub returns-in-3 : goal.returns-in-3
returns-in-3 c = search laws.arm3

pub returns-in-4 : goal.returns-in-4
returns-in-4 c = search laws.arm4

pub returns-in-5 : goal.returns-in-5
returns-in-5 c = search laws.arm5

pub returns-in-6 : goal.returns-in-6
returns-in-6 c = search laws.arm6

pub returns-in-7 : goal.returns-in-7
returns-in-7 c = search laws.arm7

pub returns-in-8 : goal.returns-in-8
returns-in-8 c = search laws.arm8

pub returns-in_default : goal.returns-in_default
returns-in_default c = search laws.arm_else
