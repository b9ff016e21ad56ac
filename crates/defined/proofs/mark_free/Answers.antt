-- None, or one.
use Rattle.defined.proofs.Laws as laws
use Rattle.defined.proofs.mark_free.Goals as goal

pub returns-then-place-eq0 : goal.returns-then-place-eq0
returns-then-place-eq0 c = search laws.none_free

pub returns : goal.returns
returns c = search laws.mark_free
