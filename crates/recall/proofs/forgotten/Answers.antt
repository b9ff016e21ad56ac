-- The same number everywhere.
use Rattle.recall.proofs.Turns as laws
use Rattle.recall.proofs.forgotten.Goals as goal

pub returns : goal.returns
returns c = laws.forgets
