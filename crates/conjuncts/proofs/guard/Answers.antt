use Rattle.conjuncts.proofs.Conjuncts as laws
use Rattle.conjuncts.proofs.guard.Goals as goal

pub loop-init : goal.loop-init
loop-init c = search laws.guard_begin

pub returns-in-None : goal.returns-in-None
returns-in-None c = search laws.guard_none

pub returns-then-not-left : goal.returns-then-not-left
returns-then-not-left c = search laws.guard_off

pub loop-preserved : goal.loop-preserved
loop-preserved c = search laws.guard_turn

pub returns : goal.returns
returns c = search laws.guard_end
