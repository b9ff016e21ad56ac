-- Two stores.
use Rattle.plan.proofs.Planned as laws
use Rattle.plan.proofs.put_risk.Goals as goal

pub returns : goal.returns
returns c = search laws.risk_put
