-- The value in its line.
use Rattle.defined.proofs.Laws as laws
use Rattle.defined.proofs.measure.Goals as goal

pub returns : goal.returns
returns c = search laws.measure_is
