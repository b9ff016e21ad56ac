-- Of a table that is sure nothing is asked.
use Rattle.tenth.proofs.Laws as laws
use Rattle.tenth.proofs.holds.Goals as goal

pub returns-then-sure : goal.returns-then-sure
returns-then-sure c = search laws.tenth_sure

pub returns : goal.returns
returns c = search laws.tenth_asked
