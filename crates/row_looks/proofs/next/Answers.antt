-- The values behind the data.
use Rattle.row_looks.proofs.Looks as laws
use Rattle.row_looks.proofs.next.Goals as goal

pub returns : goal.returns
returns c = search laws.next_is
