-- The two cases.
use Rattle.walk.proofs.Walking as laws
use Rattle.walk.proofs.named.Goals as goal

pub returns-in-None : goal.returns-in-None
returns-in-None c = search laws.named_none

pub returns-in-Some : goal.returns-in-Some
returns-in-Some c = search laws.named_found
