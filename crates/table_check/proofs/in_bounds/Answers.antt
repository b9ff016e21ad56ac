-- `table_check::in_bounds` goes by what the numbers are.
use Rattle.table_check.proofs.Lines as lines
use Rattle.table_check.proofs.in_bounds.Goals as goal

pub returns-in-Parameter : goal.returns-in-Parameter
returns-in-Parameter c = search lines.of_parameter

pub returns-in-Row : goal.returns-in-Row
returns-in-Row c = search lines.of_row
