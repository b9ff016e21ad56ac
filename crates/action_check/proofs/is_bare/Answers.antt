-- `action_check::is_bare` asks for the data of an internal row only.
use Rattle.action_check.proofs.Laws as laws
use Rattle.action_check.proofs.is_bare.Goals as goal

pub returns-then-field-ne-INTERNAL : goal.returns-then-field-ne-INTERNAL
returns-then-field-ne-INTERNAL c = search laws.bare_visible

pub returns : goal.returns
returns c = search laws.bare_internal
