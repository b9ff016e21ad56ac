-- `line_faults::shows4` asks the table of kinds, and the lines before.
use Rattle.line_faults.proofs.Laws as laws
use Rattle.line_faults.proofs.shows4.Goals as goal

pub returns-then-rank-last_rank : goal.returns-then-rank-last_rank
returns-then-rank-last_rank c = search laws.fourth_falls

pub returns-then-entry-rank_count : goal.returns-then-entry-rank_count
returns-then-entry-rank_count c = search laws.fourth_more

pub returns : goal.returns
returns c = search laws.fourth_length
