use native.Mathlib.Omega.{arith}
use Rattle.layout.proofs.Sizes as laws
use Rattle.layout.proofs.Lent.number.Goals as goal

pub loop-i-init : goal.loop-i-init
loop-i-init c = (omega arith, laws.number_starts _ _ _)

pub loop-i-preserved : goal.loop-i-preserved
loop-i-preserved c = (omega arith, search laws.number_turns)

pub returns : goal.returns
returns c = search laws.number_ends
