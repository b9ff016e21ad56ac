use Rattle.start.proofs.FirstStep as laws
use Rattle.start.proofs.no_internal_row.Goals as goal

pub loop-sum-init : goal.loop-sum-init
loop-sum-init c = search laws.sums_begin

pub returns-then-step-ne0 : goal.returns-then-step-ne0
returns-then-step-ne0 c = search laws.sums_visible

pub returns-then-step : goal.returns-then-step
returns-then-step c = search laws.sums_fail

pub loop-sum-preserved : goal.loop-sum-preserved
loop-sum-preserved c = search laws.sums_turn

pub returns : goal.returns
returns c = search laws.sums_end
