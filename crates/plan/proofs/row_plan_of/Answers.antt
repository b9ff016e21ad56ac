-- Each part by its law.
use Rattle.plan.proofs.Planned as laws
use Rattle.plan.proofs.row_plan_of.Goals as goal

pub returns : goal.returns
returns c = search laws.row_plan_is
