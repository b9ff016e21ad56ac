use Rattle.std.proofs.Common.{arith}
use Rattle.conjuncts.proofs.Conjuncts as laws
use Rattle.conjuncts.proofs.front.Goals as goal

pub loop-n-init : goal.loop-n-init
loop-n-init c = (omega arith, search laws.front_begin)

pub returns-then-fields-place : goal.returns-then-fields-place
returns-then-fields-place c = search laws.front_past

pub returns-then-fields-place-ne-AND : goal.returns-then-fields-place-ne-AND
returns-then-fields-place-ne-AND c = search laws.front_other

pub returns-then-not-left : goal.returns-then-not-left
returns-then-not-left c = search laws.front_reads

pub loop-n-preserved : goal.loop-n-preserved
loop-n-preserved c = (omega arith, search laws.front_turn)

pub returns : goal.returns
returns c = search laws.front_end
