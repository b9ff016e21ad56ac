use native.Mathlib.Omega.{arith}
use Rattle.blocks.proofs.Laws as laws
use Rattle.blocks.proofs.width.Goals as goal

pub loop-i-init : goal.loop-i-init
loop-i-init c = (omega arith, search laws.width_begin)

pub overflow_mul-w : goal.overflow_mul-w
overflow_mul-w c = search laws.width_fits

pub loop-i-preserved : goal.loop-i-preserved
loop-i-preserved c = (omega arith, search laws.width_turn)

pub returns : goal.returns
returns c = search laws.width_end
