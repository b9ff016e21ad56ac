use Rattle.watches.proofs.Laws as laws
use Rattle.watches.proofs.stays.Goals as goal

pub loop-i-init : goal.loop-i-init
loop-i-init c = search laws.stays_begin

pub loop-i-preserved : goal.loop-i-preserved
loop-i-preserved c = search laws.stays_turn

pub returns : goal.returns
returns c = search laws.stays_end
