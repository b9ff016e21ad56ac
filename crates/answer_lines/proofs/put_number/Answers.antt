-- `put_number` puts the digits of a number, at most 20.
use Rattle.answer_lines.proofs.Decimal as decimal
use Rattle.answer_lines.proofs.put_number.Goals as goal

pub returns-clause-line_after : goal.returns-clause-line_after
returns-clause-line_after c = search decimal.decimal_put
