-- Each return is a law of Laws; where a part of a term is none, so is the term.
use mathlib.Core.Path.{◌∙◌}
use Rattle.term_check.proofs.Laws as laws
use Rattle.term_check.proofs.+formula_value.Goals as goal

pub formula-returns-then-depth-eq0 : goal.formula-returns-then-depth-eq0
formula-returns-then-depth-eq0 t c = search laws.shallow_f

pub formula-returns-in_err-field_at : goal.formula-returns-in_err-field_at
formula-returns-in_err-field_at t c = c.from_residual.ensures ∙ search (laws.ended_f, c.in_err-field_at.ensures)

pub formula-returns-in_err-a-in-Comparison : goal.formula-returns-in_err-a-in-Comparison
formula-returns-in_err-a-in-Comparison t c = c.from_residual-in_err-a-in-Comparison.ensures ∙ search (laws.comparison_wrong, c.in_ok-field_at.ensures, c.in_err-a-in-Comparison.ensures)

pub formula-returns-in_err-b-in-Comparison : goal.formula-returns-in_err-b-in-Comparison
formula-returns-in_err-b-in-Comparison t c = c.from_residual-in_err-b-in-Comparison.ensures ∙ search (laws.comparison_next_wrong, c.in_ok-field_at.ensures, c.in_ok-a-in-Comparison.ensures, c.in_err-b-in-Comparison.ensures)

pub formula-overflow_add-result : goal.formula-overflow_add-result
formula-overflow_add-result t c = search (laws.fits_v, c.in_ok-a-in-Comparison.ensures)

pub formula-overflow_add-result-in-Comparison : goal.formula-overflow_add-result-in-Comparison
formula-overflow_add-result-in-Comparison t c = search (laws.fits_vv, c.in_ok-a-in-Comparison.ensures, c.in_ok-b-in-Comparison.ensures)

pub formula-returns-in_err-f-in-Negation : goal.formula-returns-in_err-f-in-Negation
formula-returns-in_err-f-in-Negation t c = c.from_residual-in_err-f-in-Negation.ensures ∙ search (laws.negation_wrong, c.in_ok-field_at.ensures, c.in_err-f-in-Negation.ensures)

pub formula-overflow_add-result-in-Negation : goal.formula-overflow_add-result-in-Negation
formula-overflow_add-result-in-Negation t c = search (laws.fits_f, c.in_ok-f-in-Negation.ensures)

pub formula-returns-in_err-f-in-Connective : goal.formula-returns-in_err-f-in-Connective
formula-returns-in_err-f-in-Connective t c = c.from_residual-in_err-f-in-Connective.ensures ∙ search (laws.connective_wrong, c.in_ok-field_at.ensures, c.in_err-f-in-Connective.ensures)

pub formula-returns-in_err-g-in-Connective : goal.formula-returns-in_err-g-in-Connective
formula-returns-in_err-g-in-Connective t c = c.from_residual-in_err-g-in-Connective.ensures ∙ search (laws.connective_next_wrong, c.in_ok-field_at.ensures, c.in_ok-f-in-Connective.ensures, c.in_err-g-in-Connective.ensures)

pub formula-overflow_add-result-in-Connective : goal.formula-overflow_add-result-in-Connective
formula-overflow_add-result-in-Connective t c = search (laws.fits_f, c.in_ok-f-in-Connective.ensures)

pub formula-overflow_add-result-in-Connective-2 : goal.formula-overflow_add-result-in-Connective-2
formula-overflow_add-result-in-Connective-2 t c = search (laws.fits_ff, c.in_ok-f-in-Connective.ensures, c.in_ok-g-in-Connective.ensures)

pub formula-returns-in-Constant : goal.formula-returns-in-Constant
formula-returns-in-Constant t c = search (laws.constant, c.in_ok-field_at.ensures)

pub formula-returns-in_ok-b-in-Comparison : goal.formula-returns-in_ok-b-in-Comparison
formula-returns-in_ok-b-in-Comparison t c = search (laws.comparison_next, c.in_ok-field_at.ensures, c.in_ok-a-in-Comparison.ensures, c.in_ok-b-in-Comparison.ensures)

pub formula-returns-in_ok-f-in-Negation : goal.formula-returns-in_ok-f-in-Negation
formula-returns-in_ok-f-in-Negation t c = search (laws.negation_next, c.in_ok-field_at.ensures, c.in_ok-f-in-Negation.ensures)

pub formula-returns-in_ok-g-in-Connective : goal.formula-returns-in_ok-g-in-Connective
formula-returns-in_ok-g-in-Connective t c = search (laws.connective_next, c.in_ok-field_at.ensures, c.in_ok-f-in-Connective.ensures, c.in_ok-g-in-Connective.ensures)

pub formula-returns-in-Wrong : goal.formula-returns-in-Wrong
formula-returns-in-Wrong t c = search (laws.wrong_f, c.in_ok-field_at.ensures)

pub value-returns-then-depth-eq0 : goal.value-returns-then-depth-eq0
value-returns-then-depth-eq0 t c = search laws.shallow_v

pub value-returns-in_err-field_at : goal.value-returns-in_err-field_at
value-returns-in_err-field_at t c = c.from_residual.ensures ∙ search (laws.ended_v, c.in_err-field_at.ensures)

pub value-returns-in_err-field_at-in-Number : goal.value-returns-in_err-field_at-in-Number
value-returns-in_err-field_at-in-Number t c = c.from_residual-in_err-field_at-in-Number.ensures ∙ search (laws.no_number, c.in_ok-field_at.ensures, c.in_err-field_at-in-Number.ensures)

pub value-returns-in_err-i-in-Parameter : goal.value-returns-in_err-i-in-Parameter
value-returns-in_err-i-in-Parameter t c = c.from_residual-in_err-i-in-Parameter.ensures ∙ search (laws.no_parameter, c.in_ok-field_at.ensures, c.in_err-i-in-Parameter.ensures)

pub value-returns-in_err-a-in-Arithmetic : goal.value-returns-in_err-a-in-Arithmetic
value-returns-in_err-a-in-Arithmetic t c = c.from_residual-in_err-a-in-Arithmetic.ensures ∙ search (laws.arithmetic_wrong, c.in_ok-field_at.ensures, c.in_err-a-in-Arithmetic.ensures)

pub value-returns-in_err-b-in-Arithmetic : goal.value-returns-in_err-b-in-Arithmetic
value-returns-in_err-b-in-Arithmetic t c = c.from_residual-in_err-b-in-Arithmetic.ensures ∙ search (laws.arithmetic_next_wrong, c.in_ok-field_at.ensures, c.in_ok-a-in-Arithmetic.ensures, c.in_err-b-in-Arithmetic.ensures)

pub value-overflow_add-result : goal.value-overflow_add-result
value-overflow_add-result t c = search (laws.fits_v, c.in_ok-a-in-Arithmetic.ensures)

pub value-overflow_add-result-in-Arithmetic : goal.value-overflow_add-result-in-Arithmetic
value-overflow_add-result-in-Arithmetic t c = search (laws.fits_vv, c.in_ok-a-in-Arithmetic.ensures, c.in_ok-b-in-Arithmetic.ensures)

pub value-returns-in_err-f-in-Choice : goal.value-returns-in_err-f-in-Choice
value-returns-in_err-f-in-Choice t c = c.from_residual-in_err-f-in-Choice.ensures ∙ search (laws.choice_wrong, c.in_ok-field_at.ensures, c.in_err-f-in-Choice.ensures)

pub value-returns-in_err-a-in-Choice : goal.value-returns-in_err-a-in-Choice
value-returns-in_err-a-in-Choice t c = c.from_residual-in_err-a-in-Choice.ensures ∙ search (laws.choice_next_wrong, c.in_ok-field_at.ensures, c.in_ok-f-in-Choice.ensures, c.in_err-a-in-Choice.ensures)

pub value-returns-in_err-b-in-Choice : goal.value-returns-in_err-b-in-Choice
value-returns-in_err-b-in-Choice t c = c.from_residual-in_err-b-in-Choice.ensures ∙ search (laws.choice_last_wrong, c.in_ok-field_at.ensures, c.in_ok-f-in-Choice.ensures, c.in_ok-a-in-Choice.ensures, c.in_err-b-in-Choice.ensures)

pub value-overflow_add-result-in-Choice : goal.value-overflow_add-result-in-Choice
value-overflow_add-result-in-Choice t c = search (laws.fits_f, c.in_ok-f-in-Choice.ensures)

pub value-overflow_add-result-in-Choice-2 : goal.value-overflow_add-result-in-Choice-2
value-overflow_add-result-in-Choice-2 t c = search (laws.fits_fv, c.in_ok-f-in-Choice.ensures, c.in_ok-a-in-Choice.ensures)

pub value-overflow_add-result-in-Choice-3 : goal.value-overflow_add-result-in-Choice-3
value-overflow_add-result-in-Choice-3 t c = search (laws.fits_fvv, c.in_ok-f-in-Choice.ensures, c.in_ok-a-in-Choice.ensures, c.in_ok-b-in-Choice.ensures)

pub value-returns-in_ok-field_at-in-Number : goal.value-returns-in_ok-field_at-in-Number
value-returns-in_ok-field_at-in-Number t c = search (laws.number, c.in_ok-field_at.ensures, c.in_ok-field_at-in-Number.ensures)

pub value-returns-then-i-params : goal.value-returns-then-i-params
value-returns-then-i-params t c = search (laws.parameter, c.in_ok-field_at.ensures, c.in_ok-i-in-Parameter.ensures)

pub value-returns-else-i-params : goal.value-returns-else-i-params
value-returns-else-i-params t c = search (laws.foreign_parameter, c.in_ok-field_at.ensures, c.in_ok-i-in-Parameter.ensures)

pub value-returns-then-row : goal.value-returns-then-row
value-returns-then-row t c = search (laws.sum_value_lem, c.in_ok-field_at.ensures)

pub value-returns-else-row : goal.value-returns-else-row
value-returns-else-row t c = search (laws.no_sum_value, c.in_ok-field_at.ensures)

pub value-returns-in_ok-b-in-Arithmetic : goal.value-returns-in_ok-b-in-Arithmetic
value-returns-in_ok-b-in-Arithmetic t c = search (laws.arithmetic_next, c.in_ok-field_at.ensures, c.in_ok-a-in-Arithmetic.ensures, c.in_ok-b-in-Arithmetic.ensures)

pub value-returns-in_ok-b-in-Choice : goal.value-returns-in_ok-b-in-Choice
value-returns-in_ok-b-in-Choice t c = search (laws.choice_next, c.in_ok-field_at.ensures, c.in_ok-f-in-Choice.ensures, c.in_ok-a-in-Choice.ensures, c.in_ok-b-in-Choice.ensures)

pub value-returns-in-Wrong : goal.value-returns-in-Wrong
value-returns-in-Wrong t c = search (laws.wrong_v, c.in_ok-field_at.ensures)
