-- `line_faults::rank_of` is a kind's rank.
use Rattle.line_faults.proofs.Laws as laws
use Rattle.line_faults.proofs.rank_of.Goals as goal

pub returns : goal.returns
returns c = search laws.rank_is
