use Rattle.std.proofs.Common.{rules}
use Rattle.state_passes.proofs.Seeing as laws
use Rattle.state_passes.proofs.internal_looks.Goals as goal

pub loop-sum-init : goal.loop-sum-init
loop-sum-init c = search laws.internal_begin

pub returns-in_err-quiet : goal.returns-in_err-quiet
returns-in_err-quiet c = search (rules, laws.internal_fail, c.in_err-quiet.was)

pub loop-sum-preserved : goal.loop-sum-preserved
loop-sum-preserved c = search (laws.internal_turn, c.in_ok-quiet.was)

pub returns : goal.returns
returns c = search laws.internal_end
