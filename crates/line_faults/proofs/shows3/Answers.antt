-- `line_faults::shows3` asks for the fields of the line, and of those before it.
use Rattle.line_faults.proofs.Laws as laws
use Rattle.line_faults.proofs.shows3.Goals as goal

pub returns-then-count-gt-MAX_LINE_FIELDS : goal.returns-then-count-gt-MAX_LINE_FIELDS
returns-then-count-gt-MAX_LINE_FIELDS c = search laws.third_long

pub returns : goal.returns
returns c = search laws.third_sum
