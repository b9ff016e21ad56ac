use borrow.Author.Rules.{rules}
use Rattle.told_terms.proofs.Laws as laws
use Rattle.told_terms.proofs.values.Goals as goal

pub loop-i-init : goal.loop-i-init
loop-i-init c = (search rules, search laws.told_start)

pub loop-i-preserved : goal.loop-i-preserved
loop-i-preserved c = (search rules, search laws.told_turn)

pub returns : goal.returns
returns c = search laws.told_end
