-- The formula at the place, if there is one.
use Rattle.plan.proofs.Risks as laws
use Rattle.plan.proofs.mark_risk.Goals as goal

pub returns-then-place-eq0 : goal.returns-then-place-eq0
returns-then-place-eq0 c = search laws.no_mark_risk

pub returns : goal.returns
returns c = search laws.mark_risk_is
