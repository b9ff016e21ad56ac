-- Behind the rows' numbers.
use Rattle.row_plan.proofs.Numbers as laws
use Rattle.row_plan.proofs.risk.Goals as goal

pub returns : goal.returns
returns c = search laws.risk_is
