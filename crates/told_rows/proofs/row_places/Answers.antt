-- Its eight values.
use Rattle.told_rows.proofs.Laws as laws
use Rattle.told_rows.proofs.row_places.Goals as goal

pub returns : goal.returns
returns c = search laws.row_places
