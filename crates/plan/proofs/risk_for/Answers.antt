-- The implementation's rows come first.
use Rattle.plan.proofs.Risks as laws
use Rattle.plan.proofs.risk_for.Goals as goal

pub returns-then-i-lt-ROWS : goal.returns-then-i-lt-ROWS
returns-then-i-lt-ROWS c = search laws.of_implementation

pub returns-else-i-lt-ROWS : goal.returns-else-i-lt-ROWS
returns-else-i-lt-ROWS c = search laws.of_specification
