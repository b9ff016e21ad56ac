-- By its number.
use Rattle.desk_numbers.proofs.Laws as laws
use Rattle.desk_numbers.proofs.phase_by.Goals as goal

pub returns-in-1 : goal.returns-in-1
returns-in-1 c = search laws.phase_1

pub returns-in-2 : goal.returns-in-2
returns-in-2 c = search laws.phase_2

pub returns-in-3 : goal.returns-in-3
returns-in-3 c = search laws.phase_3

pub returns-in-4 : goal.returns-in-4
returns-in-4 c = search laws.phase_4

pub returns-in_default : goal.returns-in_default
returns-in_default c = search laws.phase_else
