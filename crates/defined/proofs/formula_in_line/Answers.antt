-- By its law.
use Rattle.defined.proofs.Laws as laws
use Rattle.defined.proofs.formula_in_line.Goals as goal

pub returns : goal.returns
returns c = search laws.formula_is
