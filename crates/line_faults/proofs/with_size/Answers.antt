-- `line_faults::with_size`, by the line's kind.
use Rattle.line_faults.proofs.Laws as laws
use Rattle.line_faults.proofs.with_size.Goals as goal

pub returns-then-field-eq1 : goal.returns-then-field-eq1
returns-then-field-eq1 c = search laws.size_times

pub returns-else-field-eq1 : goal.returns-else-field-eq1
returns-else-field-eq1 c = search laws.size_other
