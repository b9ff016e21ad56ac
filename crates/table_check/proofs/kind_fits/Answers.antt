-- `table_check::kind_fits` asks for one kind.
use Rattle.table_check.proofs.Lines as lines
use Rattle.table_check.proofs.kind_fits.Goals as goal

pub returns-then-entry-eq0 : goal.returns-then-entry-eq0
returns-then-entry-eq0 c = search lines.kind_none

pub offset_bounds-tally-rank : goal.offset_bounds-tally-rank
offset_bounds-tally-rank c = search lines.rank_place

pub bounds-tally-rank : goal.bounds-tally-rank
bounds-tally-rank c = search lines.rank_below

pub returns : goal.returns
returns c = search lines.kind_some
