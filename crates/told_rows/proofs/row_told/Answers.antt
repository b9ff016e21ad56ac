-- Condition, data and next values, each from where the one before ended.
use Rattle.told_rows.proofs.Laws as laws
use Rattle.told_rows.proofs.row_told.Goals as goal

pub returns : goal.returns
returns c = search laws.line_told_lem
