-- `line_check::formula_then_values_fit`: the formula is checked first, and the values on the rest of the part.
use Rattle.line_check.proofs.Laws as laws
use Rattle.line_check.proofs.formula_then_values_fit.Goals as goal

pub returns-in_default : goal.returns-in_default
returns-in_default c = search (laws.then_wrong, c.in_default.ensures)

pub returns : goal.returns
returns c = search (laws.then_values, c.in-Some.ensures)
