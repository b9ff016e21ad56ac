-- `duty::same_duty` compares what is loaded.
use Rattle.duty.proofs.Told as told
use Rattle.duty.proofs.same_duty.Goals as goal

pub returns-in_default : goal.returns-in_default
returns-in_default c = search told.no_design

pub returns-in_default-load : goal.returns-in_default-load
returns-in_default-load c = search told.no_duty

pub returns-then-same_specification : goal.returns-then-same_specification
returns-then-same_specification c = search told.duty_same

pub returns-else-same_specification : goal.returns-else-same_specification
returns-else-same_specification c = search told.duty_differs
