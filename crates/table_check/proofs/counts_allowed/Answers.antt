-- `table_check::counts_allowed` bounds the lines of each kind.
use Rattle.table_check.proofs.Lines as lines
use Rattle.table_check.proofs.counts_allowed.Goals as goal

pub returns : goal.returns
returns c = search lines.tally_counts
