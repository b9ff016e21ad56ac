-- `line_faults::shows2`: a line is whole if its fields are all its bytes.
use Rattle.line_faults.proofs.Laws as laws
use Rattle.reader.proofs.Line.{fields_within}
use native.Mathlib.Omega.{arith}
use Rattle.line_faults.proofs.shows2.Goals as goal

pub returns-then-count-eq0 : goal.returns-then-count-eq0
returns-then-count-eq0 c = search laws.second_none

pub overflow_mul-count : goal.overflow_mul-count
overflow_mul-count c = omega (arith, fields_within c.args.line.now)

pub returns-then-count-line : goal.returns-then-count-line
returns-then-count-line c = search laws.second_more

pub returns : goal.returns
returns c = search laws.second_last
