-- Condition, data and next values, one after the other.
use Rattle.defined.proofs.Laws as laws
use Rattle.defined.proofs.row_at.Goals as goal

pub returns-in-Err : goal.returns-in-Err
returns-in-Err c = search laws.condition_lacks

pub returns-then-not-holds : goal.returns-then-not-holds
returns-then-not-holds c = search laws.condition_fails

pub returns-then-is_err : goal.returns-then-is_err
returns-then-is_err c = search laws.data_lacks

pub returns : goal.returns
returns c = search laws.row_has
