-- The row in its line; nothing before the first and past the last.
use Rattle.told_rows.proofs.Laws as laws
use Rattle.told_rows.proofs.row.Goals as goal

pub returns-then-k-eq0 : goal.returns-then-k-eq0
returns-then-k-eq0 c = search laws.no_row

pub returns-then-process-k : goal.returns-then-process-k
returns-then-process-k c = search laws.past_rows

pub mark_told-mark-requires : goal.mark_told-mark-requires
mark_told-mark-requires c = search laws.row_there_is

pub returns : goal.returns
returns c = search laws.row_is
