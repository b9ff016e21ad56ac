-- The condition alone, or the whole row.
use Rattle.plan.proofs.Planned as laws
use Rattle.plan.proofs.row_free.Goals as goal

pub returns-then-not-whole-condition : goal.returns-then-not-whole-condition
returns-then-not-whole-condition c = search laws.condition_free_is

pub returns : goal.returns
returns c = search laws.row_free_is
