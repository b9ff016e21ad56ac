-- `duty::same_line` compares lengths, then fields.
use Rattle.duty.proofs.Laws as laws
use Rattle.duty.proofs.same_line.Goals as goal

pub returns-then-length-line_length : goal.returns-then-length-line_length
returns-then-length-line_length c = search laws.line_longer

pub returns : goal.returns
returns c = search laws.line_fields
