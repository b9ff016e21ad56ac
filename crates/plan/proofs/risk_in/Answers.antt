-- Where there is a row.
use Rattle.plan.proofs.Risks as laws
use Rattle.plan.proofs.risk_in.Goals as goal

pub returns-then-k-process : goal.returns-then-k-process
returns-then-k-process c = search laws.risk_there

pub returns : goal.returns
returns c = search laws.risk_past
