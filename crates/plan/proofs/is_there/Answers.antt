-- Below the rows of the one, or of the other.
use Rattle.plan.proofs.Planned as laws
use Rattle.plan.proofs.is_there.Goals as goal

pub returns-then-i-lt-ROWS : goal.returns-then-i-lt-ROWS
returns-then-i-lt-ROWS c = search laws.there_first

pub returns-else-i-lt-ROWS : goal.returns-else-i-lt-ROWS
returns-else-i-lt-ROWS c = search laws.there_second
