use Rattle.measurable.proofs.Measurable as laws
use Rattle.measurable.proofs.rows_stay.Goals as goal

pub loop-i-init : goal.loop-i-init
loop-i-init c = search laws.rows_start

pub returns-then-not-row_stays : goal.returns-then-not-row_stays
returns-then-not-row_stays c = search laws.rows_fail

pub loop-i-preserved : goal.loop-i-preserved
loop-i-preserved c = search laws.rows_turn

pub returns : goal.returns
returns c = search laws.rows_end
