-- The line before the first and so many on.
use Rattle.steps.proofs.Arrays as laws
use Rattle.steps.proofs.line_of.Goals as goal

pub returns : goal.returns
returns c = search laws.line_is
