-- A power of two that fits, or none.
use Rattle.reads.proofs.Laws as laws
use Rattle.reads.proofs.only.Goals as goal

pub returns-then-i-lt-PARAMETERS : goal.returns-then-i-lt-PARAMETERS
returns-then-i-lt-PARAMETERS c = search laws.only_there

pub returns-else-i-lt-PARAMETERS : goal.returns-else-i-lt-PARAMETERS
returns-else-i-lt-PARAMETERS c = search laws.only_none
