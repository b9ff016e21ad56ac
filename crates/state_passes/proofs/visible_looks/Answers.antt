use Rattle.state_passes.proofs.Seeing as laws
use Rattle.state_passes.proofs.visible_looks.Goals as goal

pub loop-sum-init : goal.loop-sum-init
loop-sum-init c = search laws.visible_begin

pub returns-then-not-visible_look : goal.returns-then-not-visible_look
returns-then-not-visible_look c = search laws.visible_fail

pub loop-sum-preserved : goal.loop-sum-preserved
loop-sum-preserved c = search laws.visible_turn

pub returns : goal.returns
returns c = search laws.visible_end
