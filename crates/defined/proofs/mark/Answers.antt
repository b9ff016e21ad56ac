-- The formula at the place, if there is one.
use Rattle.defined.proofs.Laws as laws
use Rattle.defined.proofs.mark.Goals as goal

pub returns-then-place-eq0 : goal.returns-then-place-eq0
returns-then-place-eq0 c = search laws.no_mark_lem

pub returns : goal.returns
returns c = search laws.some_mark
