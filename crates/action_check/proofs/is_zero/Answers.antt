-- `action_check::is_zero` looks at the two fields.
use Rattle.action_check.proofs.Laws as laws
use Rattle.action_check.proofs.is_zero.Goals as goal

pub returns-then-fields-at : goal.returns-then-fields-at
returns-then-fields-at c = search laws.zero_past

pub returns-then-fields-at-ne0 : goal.returns-then-fields-at-ne0
returns-then-fields-at-ne0 c = search laws.zero_other

pub returns-then-fields-at-2 : goal.returns-then-fields-at-2
returns-then-fields-at-2 c = search laws.zero_short

pub returns : goal.returns
returns c = search laws.zero_second
