-- `table_check::counts_of` counts the lines of kinds 1 to 4 and 8.
use Rattle.table_check.proofs.Lines as lines
use Rattle.table_check.proofs.counts_of.Goals as goal

pub returns : goal.returns
returns c = search lines.kinds_counted
