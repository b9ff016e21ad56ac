-- Field 2 of the line of the row; 0 where there is none.
use Rattle.steps.proofs.Arrays as laws
use Rattle.steps.proofs.row_span.Goals as goal

pub returns-then-k-eq0 : goal.returns-then-k-eq0
returns-then-k-eq0 c = search laws.span_none

pub returns-then-process-k : goal.returns-then-process-k
returns-then-process-k c = search laws.span_past

pub returns : goal.returns
returns c = search laws.span_there
