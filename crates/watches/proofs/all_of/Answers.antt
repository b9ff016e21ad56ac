use Rattle.watches.proofs.Laws as laws
use Rattle.watches.proofs.all_of.Goals as goal

pub loop-i-init : goal.loop-i-init
loop-i-init c = search laws.all_begin

pub loop-i-preserved : goal.loop-i-preserved
loop-i-preserved c = search laws.all_turn

pub returns : goal.returns
returns c = search laws.all_end
