use Rattle.watches.proofs.Laws as laws
use Rattle.watches.proofs.changing.Goals as goal

pub loop-i-init : goal.loop-i-init
loop-i-init c = (search laws.changes_begin, search laws.by_begin)

pub loop-i-preserved : goal.loop-i-preserved
loop-i-preserved c = (search laws.changes_turn, search laws.by_turn)

pub returns : goal.returns
returns c = search laws.changing_end
