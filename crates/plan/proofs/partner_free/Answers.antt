-- No row reads nothing.
use Rattle.plan.proofs.Planned as laws
use Rattle.plan.proofs.partner_free.Goals as goal

pub returns-then-k-eq0 : goal.returns-then-k-eq0
returns-then-k-eq0 c = search laws.partner_free_none

pub returns : goal.returns
returns c = search laws.partner_free_is
