-- Criterion 2, the rows of the implementation, and at a focus point those of the specification.
use Rattle.state_passes.proofs.Seeing as laws
use Rattle.state_passes.proofs.passes.Goals as goal

pub returns-then-not-below : goal.returns-then-not-below
returns-then-not-below c = search laws.pass_two

pub returns-in_default : goal.returns-in_default
returns-in_default c = search laws.pass_rows

pub returns-then-not-quiet : goal.returns-then-not-quiet
returns-then-not-quiet c = search laws.pass_busy

pub returns : goal.returns
returns c = search laws.pass_quiet
