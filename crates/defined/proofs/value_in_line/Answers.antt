-- By its law.
use Rattle.defined.proofs.Laws as laws
use Rattle.defined.proofs.value_in_line.Goals as goal

pub returns : goal.returns
returns c = search laws.value_is
