use borrow.Author.Rules.{rules}
use Rattle.steps.proofs.Arrays as laws
use Rattle.steps.proofs.put_values.Goals as goal

pub loop-i-init : goal.loop-i-init
loop-i-init c = (search rules, search laws.values_start)

pub loop-i-preserved : goal.loop-i-preserved
loop-i-preserved c = (search rules, search laws.values_turn)

pub returns : goal.returns
returns c = search laws.values_end
