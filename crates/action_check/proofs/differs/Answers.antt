-- `action_check::differs` compares the actions.
use Rattle.action_check.proofs.Laws as laws
use Rattle.action_check.proofs.differs.Goals as goal

pub returns : goal.returns
returns c = search laws.differs
