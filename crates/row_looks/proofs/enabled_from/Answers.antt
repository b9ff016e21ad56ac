use Rattle.row_looks.proofs.Looks as laws
use Rattle.row_looks.proofs.enabled_from.Goals as goal

pub loop-sum-init : goal.loop-sum-init
loop-sum-init c = search laws.off_starts

pub returns-then-on : goal.returns-then-on
returns-then-on c = search laws.found_on

pub loop-sum-preserved : goal.loop-sum-preserved
loop-sum-preserved c = search laws.off_turns

pub returns : goal.returns
returns c = search laws.found_none
