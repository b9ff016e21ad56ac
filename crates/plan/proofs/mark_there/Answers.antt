-- The formula at its place, which is after the kind of the line and within the fields.
use Rattle.plan.proofs.Planned as laws
use Rattle.plan.proofs.mark_there.Goals as goal

pub overflow_sub-result : goal.overflow_sub-result
overflow_sub-result c = search laws.place_after

pub overflow_cast-result-2 : goal.overflow_cast-result-2
overflow_cast-result-2 c = search laws.place_near

pub returns : goal.returns
returns c = search laws.mark_there_is
