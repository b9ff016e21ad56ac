-- `columns::digit` is the number of a digit.
use Rattle.columns.proofs.Weights as weights
use Rattle.columns.proofs.digit.Goals as goal

pub returns-then-is_ascii_digit : goal.returns-then-is_ascii_digit
returns-then-is_ascii_digit c = search (weights.one_digit, c.if-is_ascii_digit.ensures.cases)

pub returns-else-is_ascii_digit : goal.returns-else-is_ascii_digit
returns-else-is_ascii_digit c = weights.not_one c.args.b c.if-is_ascii_digit.ensures.cases
