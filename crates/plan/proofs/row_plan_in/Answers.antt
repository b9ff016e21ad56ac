-- Where there is a row.
use Rattle.plan.proofs.Planned as laws
use Rattle.plan.proofs.row_plan_in.Goals as goal

pub returns-then-k-process : goal.returns-then-k-process
returns-then-k-process c = search laws.row_plan_there

pub returns : goal.returns
returns c = search laws.row_plan_past
