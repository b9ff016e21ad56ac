-- Both parts.
use Rattle.steps.proofs.Arrays as laws
use Rattle.steps.proofs.inside.Goals as goal

pub returns-then-below : goal.returns-then-below
returns-then-below c = search laws.inside_so

pub returns-else-below : goal.returns-else-below
returns-else-below c = search laws.inside_not
