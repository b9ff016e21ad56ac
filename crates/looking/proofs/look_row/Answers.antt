-- The row, by the counts.
use Rattle.looking.proofs.Laws as laws
use Rattle.looking.proofs.look_row.Goals as goal

pub returns : goal.returns
returns c = search laws.row_by_counts
