-- The formula at the mark's place, where there are marks.
use Rattle.marks.proofs.Marks as laws
use Rattle.marks.proofs.marked.Goals as goal

pub returns-then-shape-eq0 : goal.returns-then-shape-eq0
returns-then-shape-eq0 c = search laws.all_marked

pub returns : goal.returns
returns c = search laws.marked_is
