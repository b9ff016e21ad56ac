use mathlib.Core.Path.{◌∙◌}
use native.Mathlib.Omega.{arith}
use borrow.Author.Rules.{rules}
use Rattle.columns.proofs.Turns as turns
use Rattle.columns.proofs.digits.Goals as goal

pub loop-i-init : goal.loop-i-init
loop-i-init c = record { from_le = c.requires.1; within = omega arith; read = search turns.digits_start }

pub returns-in_err-n : goal.returns-in_err-n
returns-in_err-n c = c.from_residual.ensures ∙ search (turns.digit_none, c.in_err-n.ensures)

pub overflow_mul-n : goal.overflow_mul-n
overflow_mul-n c = search (rules, turns.share_fits, c.in_ok-n.ensures)

pub overflow_add-n : goal.overflow_add-n
overflow_add-n c = search (rules, turns.sum_fits, c.in_ok-n.ensures)

pub overflow_mul-weight : goal.overflow_mul-weight
overflow_mul-weight c = search (rules, turns.weight_fits)

pub loop-i-preserved : goal.loop-i-preserved
loop-i-preserved c = record { from_le = omega arith; within = omega arith; read = search (turns.digit_turn, c.in_ok-n.ensures) }

pub returns : goal.returns
returns c = c.ok.ensures.value ∙ search turns.digits_end
