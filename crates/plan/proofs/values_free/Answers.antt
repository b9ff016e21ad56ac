use Rattle.plan.proofs.Planned as laws
use Rattle.plan.proofs.values_free.Goals as goal

pub loop-i-init : goal.loop-i-init
loop-i-init c = search laws.free_begin

pub returns-then-not-x : goal.returns-then-not-x
returns-then-not-x c = search laws.free_fail

pub loop-i-preserved : goal.loop-i-preserved
loop-i-preserved c = search laws.free_turn

pub returns : goal.returns
returns c = search laws.free_end
