-- `line_faults::field` is a field of a line, 0 past its end.
use Rattle.line_faults.proofs.Laws as laws
use Rattle.line_faults.proofs.field.Goals as goal

pub returns-then-count-k : goal.returns-then-count-k
returns-then-count-k c = search laws.field_past

pub returns : goal.returns
returns c = search laws.field_is
