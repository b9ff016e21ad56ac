-- `columns::eight_bytes` has the eight bytes that a part begins with: four, and four above them.
use Rattle.columns.proofs.Word as word
use Rattle.columns.proofs.eight_bytes.Goals as goal

pub returns : goal.returns
returns c = search word.eight
