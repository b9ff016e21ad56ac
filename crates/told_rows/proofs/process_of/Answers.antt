-- By the side.
use Rattle.told_rows.proofs.Laws as laws
use Rattle.told_rows.proofs.process_of.Goals as goal

pub returns-then-side-eq0 : goal.returns-then-side-eq0
returns-then-side-eq0 c = search laws.board_side

pub returns-else-side-eq0 : goal.returns-else-side-eq0
returns-else-side-eq0 c = search laws.our_side
