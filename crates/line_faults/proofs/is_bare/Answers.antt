-- `line_faults::is_bare`: the data stands after the condition.
use Rattle.line_faults.proofs.Laws as laws
use Rattle.line_faults.proofs.is_bare.Goals as goal

pub returns-in_default : goal.returns-in_default
returns-in_default c = search (laws.bare_wrong, c.in_default.ensures)

pub returns : goal.returns
returns c = search (laws.bare_next, c.in-Some.ensures)
