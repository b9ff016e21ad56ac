use borrow.Author.Rules.{rules}
use Rattle.watches.proofs.Laws as laws
use Rattle.watches.proofs.values_reads.Goals as goal

pub loop-i-init : goal.loop-i-init
loop-i-init c = (search rules, search laws.reads_begin)

pub loop-i-preserved : goal.loop-i-preserved
loop-i-preserved c = (search rules, search laws.reads_turn)

pub returns : goal.returns
returns c = search laws.reads_end
