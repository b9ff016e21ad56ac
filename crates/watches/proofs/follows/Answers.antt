use Rattle.watches.proofs.Laws as laws
use Rattle.watches.proofs.follows.Goals as goal

pub loop-i-init : goal.loop-i-init
loop-i-init c = search laws.follows_begin

pub follows_at-found-requires : goal.follows_at-found-requires
follows_at-found-requires c = search laws.value_seen

pub loop-i-preserved : goal.loop-i-preserved
loop-i-preserved c = search laws.follows_turn

pub returns : goal.returns
returns c = search laws.follows_end
