-- After the formulas of the internal rows before it.
use Rattle.marks.proofs.Marks as laws
use Rattle.marks.proofs.place.Goals as goal

pub returns : goal.returns
returns c = search laws.mark_place_is
