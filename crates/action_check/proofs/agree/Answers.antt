-- `action_check::agree` compares the actions, and then the spans.
use Rattle.action_check.proofs.Laws as laws
use Rattle.action_check.proofs.agree.Goals as goal

pub returns-then-field : goal.returns-then-field
returns-then-field c = search laws.agree_apart

pub returns : goal.returns
returns c = search laws.agree_spans
