-- By the sort of row.
use Rattle.state_passes.proofs.Seeing as laws
use Rattle.state_passes.proofs.row_looks.Goals as goal

pub returns-then-row-on : goal.returns-then-row-on
returns-then-row-on c = search laws.row_ruled_out

pub returns-then-row : goal.returns-then-row
returns-then-row c = search laws.row_internal

pub returns : goal.returns
returns c = search laws.row_visible
