use Rattle.measurable.proofs.Measurable as laws
use Rattle.measurable.proofs.holds.Goals as goal

pub loop-k-init : goal.loop-k-init
loop-k-init c = search laws.states_start

pub returns-then-not-state_stays : goal.returns-then-not-state_stays
returns-then-not-state_stays c = search laws.states_fail

pub loop-k-preserved : goal.loop-k-preserved
loop-k-preserved c = search laws.states_turn

pub returns : goal.returns
returns c = search laws.states_end
