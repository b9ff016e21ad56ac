-- Each part by its line.
use Rattle.plan.proofs.Risks as laws
use Rattle.plan.proofs.kinds_risk.Goals as goal

pub returns : goal.returns
returns c = search laws.kinds_risk_is
