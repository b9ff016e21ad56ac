use Rattle.state_passes.proofs.Seeing as laws
use Rattle.state_passes.proofs.reply_looks.Goals as goal

pub returns-then-row-first : goal.returns-then-row-first
returns-then-row-first c = search laws.reply_ruled_out

pub loop-sum-init : goal.loop-sum-init
loop-sum-init c = search laws.reply_begin

pub returns-then-not-replied : goal.returns-then-not-replied
returns-then-not-replied c = search laws.reply_fail

pub loop-sum-preserved : goal.loop-sum-preserved
loop-sum-preserved c = search laws.reply_turn

pub returns : goal.returns
returns c = search laws.reply_end
