-- The value in the line of the measure.
use Rattle.steps.proofs.Arrays as laws
use Rattle.steps.proofs.measure.Goals as goal

pub returns : goal.returns
returns c = search laws.measure_is
