-- The mark is the formula at its place.
use Rattle.watches.proofs.Laws as laws
use Rattle.watches.proofs.mark_reads.Goals as goal

pub returns-then-shape-eq0 : goal.returns-then-shape-eq0
returns-then-shape-eq0 c = search laws.mark_absent

pub returns : goal.returns
returns c = search laws.mark_is
