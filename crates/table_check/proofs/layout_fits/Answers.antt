-- `table_check::layout_fits` is the test of fault 4.
use Rattle.table_check.proofs.Lines as lines
use Rattle.table_check.proofs.layout_fits.Goals as goal

pub returns-then-not-kinds_climb : goal.returns-then-not-kinds_climb
returns-then-not-kinds_climb c = search lines.layout_kinds

pub returns-then-not-counts_allowed : goal.returns-then-not-counts_allowed
returns-then-not-counts_allowed c = search lines.layout_counts

pub returns : goal.returns
returns c = search lines.layout_lengths
