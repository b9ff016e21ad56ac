use Rattle.std.proofs.Common.{rules}
use Rattle.divisors.proofs.Laws as laws
use Rattle.divisors.proofs.small.Goals as goal

pub loop-i-init : goal.loop-i-init
loop-i-init c = search (laws.small_begin, rules)

pub loop-i-preserved : goal.loop-i-preserved
loop-i-preserved c = search (laws.small_turn, rules)

pub returns : goal.returns
returns c = search laws.small_end
