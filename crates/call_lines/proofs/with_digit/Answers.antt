-- `with_digit` looks at the byte, and then whether the number still fits.
use Rattle.std.proofs.Common.{rules, ◌∙◌}
use Rattle.call_lines.proofs.Digits as digits
use Rattle.call_lines.proofs.with_digit.Goals as goal

pub returns-then-not-is_ascii_digit : goal.returns-then-not-is_ascii_digit
returns-then-not-is_ascii_digit c = digits.no_digit _ _ c.if-not-is_ascii_digit.ensures.cases

pub returns-in_err-checked_mul : goal.returns-in_err-checked_mul
returns-in_err-checked_mul c = c.from_residual.ensures ∙ digits.product_over _ _ c.if-not-is_ascii_digit.ensures.cases c.in_err-checked_mul.ensures

pub returns : goal.returns
returns c = digits.sum_fits _ _ c.if-not-is_ascii_digit.ensures.cases _ _ _ (search rules) (search rules) c.checked_add.ensures
