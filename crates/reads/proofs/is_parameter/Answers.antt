-- By the mark and the number after it, where both are there.
use Rattle.reads.proofs.Laws as laws
use Rattle.reads.proofs.is_parameter.Goals as goal

pub returns-then-fields-at : goal.returns-then-fields-at
returns-then-fields-at c = search laws.not_past

pub returns-then-fields-at-2 : goal.returns-then-fields-at-2
returns-then-fields-at-2 c = search laws.not_short

pub returns-then-fields-at-ne-PARAMETER : goal.returns-then-fields-at-ne-PARAMETER
returns-then-fields-at-ne-PARAMETER c = search laws.not_mark

pub returns : goal.returns
returns c = search laws.by_number
