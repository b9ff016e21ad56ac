use Rattle.plan.proofs.Risks as laws
use Rattle.plan.proofs.values_risk.Goals as goal

pub loop-i-init : goal.loop-i-init
loop-i-init c = search laws.risk_begin

pub loop-i-preserved : goal.loop-i-preserved
loop-i-preserved c = search laws.risk_turn

pub returns : goal.returns
returns c = search laws.risk_end
