-- The specification's in criterion 7.
use Rattle.lowest_failure.proofs.Search as laws
use Rattle.lowest_failure.proofs.Here.span_for.Goals as goal

pub returns-then-n-eq7 : goal.returns-then-n-eq7
returns-then-n-eq7 c = search laws.span_7

pub returns-else-n-eq7 : goal.returns-else-n-eq7
returns-else-n-eq7 c = search laws.span_else
