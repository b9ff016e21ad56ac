use borrow.Author.Rules.{rules}
use native.Mathlib.Omega.{arith}
use Rattle.row_plan.proofs.Numbers.{blank_begin}
use Rattle.plan.proofs.Planned as laws
use Rattle.plan.proofs.plan.Goals as goal

pub loop-i-init : goal.loop-i-init
loop-i-init c = (omega arith, (search rules, (blank_begin, (laws.sure_begin _ _ _, search laws.plan_begin))))

pub loop-i-preserved : goal.loop-i-preserved
loop-i-preserved c =
    (omega arith, (search laws.length_turn, (search laws.plan_blank, (search laws.sure_turn, search laws.plan_turn))))

pub returns : goal.returns
returns c = search laws.plan_end
