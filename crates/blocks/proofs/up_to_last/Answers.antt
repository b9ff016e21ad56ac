use native.Mathlib.Omega.{arith}
use lib.Bits.{and_le_l}
use Rattle.blocks.proofs.Laws as laws
use Rattle.blocks.proofs.up_to_last.Goals as goal

pub loop-i-init : goal.loop-i-init
loop-i-init c = search laws.left_all

pub returns-then-rest-eq0-clause-none_from : goal.returns-then-rest-eq0-clause-none_from
returns-then-rest-eq0-clause-none_from c = search laws.none_left

pub overflow_sub-rest : goal.overflow_sub-rest
overflow_sub-rest c = search and_le_l

pub loop-i-preserved : goal.loop-i-preserved
loop-i-preserved c = search laws.left_turn

pub returns-clause-none_from : goal.returns-clause-none_from
returns-clause-none_from c = laws.none_after _ _ _ (omega arith)
