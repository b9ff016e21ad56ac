use native.Mathlib.Omega.{arith}
use Rattle.walk.proofs.Walking as laws
use Rattle.walk.proofs.walk_on.Goals as goal

pub loop-i-init : goal.loop-i-init
loop-i-init c = (omega arith, search laws.walk_begin)

pub returns-in-Fail : goal.returns-in-Fail
returns-in-Fail c = search laws.walk_fail

pub loop-i-preserved : goal.loop-i-preserved
loop-i-preserved c = (omega arith, search laws.walk_turn)

pub returns : goal.returns
returns c = search laws.walk_end
