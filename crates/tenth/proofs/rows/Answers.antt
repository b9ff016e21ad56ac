use Rattle.tenth.proofs.Laws as laws
use Rattle.tenth.proofs.rows.Goals as goal

pub loop-i-init : goal.loop-i-init
loop-i-init c = search laws.rows_begin

pub returns-then-not-row : goal.returns-then-not-row
returns-then-not-row c = search laws.rows_fail

pub loop-i-preserved : goal.loop-i-preserved
loop-i-preserved c = search laws.rows_turn

pub returns : goal.returns
returns c = search laws.rows_end
