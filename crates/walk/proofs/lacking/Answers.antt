-- A failure of criterion 10 has row 0 and sum value 0.
use Rattle.walk.proofs.Walking as laws
use Rattle.walk.proofs.lacking.Goals as goal

pub returns : goal.returns
returns c = search laws.lacks_at
