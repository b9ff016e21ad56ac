-- By their law.
use Rattle.defined.proofs.Laws as laws
use Rattle.defined.proofs.values_in_line.Goals as goal

pub returns : goal.returns
returns c = search laws.values_are
