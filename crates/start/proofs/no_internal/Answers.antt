use Rattle.start.proofs.FirstStep as laws
use Rattle.start.proofs.no_internal.Goals as goal

pub loop-i-init : goal.loop-i-init
loop-i-init c = search laws.rows_begin

pub returns-then-not-no_internal_row : goal.returns-then-not-no_internal_row
returns-then-not-no_internal_row c = search laws.rows_fail

pub loop-i-preserved : goal.loop-i-preserved
loop-i-preserved c = search laws.rows_turn

pub returns : goal.returns
returns c = search laws.rows_end
