-- The formula at the place, if there is one.
use Rattle.marks.proofs.Marks as laws
use Rattle.marks.proofs.holds.Goals as goal

pub returns-then-place-eq0 : goal.returns-then-place-eq0
returns-then-place-eq0 c = search laws.holds_none

pub returns : goal.returns
returns c = search laws.holds_some
