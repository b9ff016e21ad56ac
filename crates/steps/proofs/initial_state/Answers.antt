use borrow.Author.Rules.{rules}
use Rattle.steps.proofs.Arrays as laws
use Rattle.steps.proofs.initial_state.Goals as goal

pub loop-i-init : goal.loop-i-init
loop-i-init c = (search rules, search laws.initial_start)

pub loop-i-preserved : goal.loop-i-preserved
loop-i-preserved c = (search rules, search laws.initial_turn)

pub returns : goal.returns
returns c = search laws.initial_end
