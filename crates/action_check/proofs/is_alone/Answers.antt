-- `action_check::is_alone` asks a visible row only.
use Rattle.action_check.proofs.Laws as laws
use Rattle.action_check.proofs.is_alone.Goals as goal

pub returns-then-action-ne-INTERNAL : goal.returns-then-action-ne-INTERNAL
returns-then-action-ne-INTERNAL c = search laws.alone_visible

pub returns : goal.returns
returns c = search laws.alone_internal
