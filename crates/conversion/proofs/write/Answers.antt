-- `write` answers the length of what was put, or 16.
use Rattle.conversion.proofs.Putting as laws
use Rattle.conversion.proofs.write.Goals as goal

pub returns-then-length-eq0-clause-value : goal.returns-then-length-eq0-clause-value
returns-then-length-eq0-clause-value c = search laws.none_put

pub returns-clause-value : goal.returns-clause-value
returns-clause-value c = search laws.some_put
