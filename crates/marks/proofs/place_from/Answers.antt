-- The start of the line, and the place in it.
use Rattle.marks.proofs.Marks as laws
use Rattle.marks.proofs.place_from.Goals as goal

pub returns-then-at-eq0 : goal.returns-then-at-eq0
returns-then-at-eq0 c = search laws.place_none

pub returns : goal.returns
returns c = search laws.place_some
