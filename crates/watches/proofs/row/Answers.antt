-- The row in the line, or none.
use Rattle.watches.proofs.Laws as laws
use Rattle.watches.proofs.row.Goals as goal

pub returns-then-k-eq0 : goal.returns-then-k-eq0
returns-then-k-eq0 c = search laws.row_none

pub returns-then-process-k : goal.returns-then-process-k
returns-then-process-k c = search laws.row_beyond

pub returns : goal.returns
returns c = search laws.row_is
