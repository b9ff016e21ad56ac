-- `columns::field_in` is the field in the k-th six columns.
use Rattle.columns.proofs.Columns as columns
use Rattle.columns.proofs.field_in.Goals as goal

pub returns-then-k-line : goal.returns-then-k-line
returns-then-k-line c = search columns.field_in

pub returns-else-k-line : goal.returns-else-k-line
returns-else-k-line c = search columns.past_end
