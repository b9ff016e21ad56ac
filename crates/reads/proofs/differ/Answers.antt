use Rattle.std.proofs.Common.{rules}
use Rattle.reads.proofs.Laws as laws
use Rattle.reads.proofs.differ.Goals as goal

pub loop-i-init : goal.loop-i-init
loop-i-init c = search (laws.differ_begin, rules)

pub loop-i-preserved : goal.loop-i-preserved
loop-i-preserved c = search (laws.differ_turn, rules)

pub returns : goal.returns
returns c = search laws.differ_end
