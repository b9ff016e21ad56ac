-- Only internal rows of the implementation have a mark, if there are marks.
use Rattle.told_rows.proofs.Laws as laws
use Rattle.told_rows.proofs.mark_told.Goals as goal

pub returns-then-side-ne0 : goal.returns-then-side-ne0
returns-then-side-ne0 c = search laws.mark_ours

pub returns-then-field_of-ne0 : goal.returns-then-field_of-ne0
returns-then-field_of-ne0 c = search laws.mark_visible

pub returns-then-shape-eq0 : goal.returns-then-shape-eq0
returns-then-shape-eq0 c = search laws.mark_no_line

pub returns : goal.returns
returns c = search laws.mark_there_lem
