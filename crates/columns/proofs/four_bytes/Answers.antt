-- `columns::four_bytes` has the four bytes of a part from a place on: two, and two above them.
use Rattle.columns.proofs.Word as word
use Rattle.columns.proofs.four_bytes.Goals as goal

pub returns : goal.returns
returns c = search word.four
