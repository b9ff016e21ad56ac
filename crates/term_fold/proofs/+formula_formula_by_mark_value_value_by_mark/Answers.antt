-- Each return is a law of Laws, for what the fold makes of values and of formulas.
use Rattle.term_fold.proofs.Laws as laws
use Rattle.term_fold.proofs.+formula_formula_by_mark_value_value_by_mark.Goals as goal

pub formula-returns-then-mark-eq-TRUE : goal.formula-returns-then-mark-eq-TRUE
formula-returns-then-mark-eq-TRUE g t c = search (laws.front_true (g.F.Fold.of_value c.args.fold) (g.F.Fold.of_formula c.args.fold))

pub formula-returns-then-mark-eq-FALSE : goal.formula-returns-then-mark-eq-FALSE
formula-returns-then-mark-eq-FALSE g t c = search (laws.front_false (g.F.Fold.of_value c.args.fold) (g.F.Fold.of_formula c.args.fold))

pub formula_by_mark-returns-then-depth-eq0 : goal.formula_by_mark-returns-then-depth-eq0
formula_by_mark-returns-then-depth-eq0 g t c = search (laws.shallow_f (g.F.Fold.of_value c.args.fold) (g.F.Fold.of_formula c.args.fold))

pub formula_by_mark-returns-then-fields-at : goal.formula_by_mark-returns-then-fields-at
formula_by_mark-returns-then-fields-at g t c = search (laws.ended_f (g.F.Fold.of_value c.args.fold) (g.F.Fold.of_formula c.args.fold))

pub formula_by_mark-returns-in-Constant : goal.formula_by_mark-returns-in-Constant
formula_by_mark-returns-in-Constant g t c = search (laws.constant (g.F.Fold.of_value c.args.fold) (g.F.Fold.of_formula c.args.fold))

pub formula_by_mark-returns-in-Comparison : goal.formula_by_mark-returns-in-Comparison
formula_by_mark-returns-in-Comparison g t c = search (laws.comparison (g.F.Fold.of_value c.args.fold) (g.F.Fold.of_formula c.args.fold))

pub formula_by_mark-returns-in-Negation : goal.formula_by_mark-returns-in-Negation
formula_by_mark-returns-in-Negation g t c = search (laws.the_negation (g.F.Fold.of_value c.args.fold) (g.F.Fold.of_formula c.args.fold))

pub formula_by_mark-returns-in-Connective : goal.formula_by_mark-returns-in-Connective
formula_by_mark-returns-in-Connective g t c = search (laws.connective (g.F.Fold.of_value c.args.fold) (g.F.Fold.of_formula c.args.fold))

pub formula_by_mark-returns-in-Wrong : goal.formula_by_mark-returns-in-Wrong
formula_by_mark-returns-in-Wrong g t c = search (laws.wrong_f (g.F.Fold.of_value c.args.fold) (g.F.Fold.of_formula c.args.fold))

pub value-returns-then-mark-eq-NUMBER : goal.value-returns-then-mark-eq-NUMBER
value-returns-then-mark-eq-NUMBER g t c = search (laws.front_number (g.F.Fold.of_value c.args.fold) (g.F.Fold.of_formula c.args.fold))

pub value-returns-then-mark-eq-PARAMETER : goal.value-returns-then-mark-eq-PARAMETER
value-returns-then-mark-eq-PARAMETER g t c = search (laws.front_parameter (g.F.Fold.of_value c.args.fold) (g.F.Fold.of_formula c.args.fold))

pub value-returns-then-mark-eq-SUM_VALUE : goal.value-returns-then-mark-eq-SUM_VALUE
value-returns-then-mark-eq-SUM_VALUE g t c = search (laws.front_sum (g.F.Fold.of_value c.args.fold) (g.F.Fold.of_formula c.args.fold))

pub value_by_mark-returns-then-depth-eq0 : goal.value_by_mark-returns-then-depth-eq0
value_by_mark-returns-then-depth-eq0 g t c = search (laws.shallow_v (g.F.Fold.of_value c.args.fold) (g.F.Fold.of_formula c.args.fold))

pub value_by_mark-returns-then-fields-at : goal.value_by_mark-returns-then-fields-at
value_by_mark-returns-then-fields-at g t c = search (laws.ended_v (g.F.Fold.of_value c.args.fold) (g.F.Fold.of_formula c.args.fold))

pub value_by_mark-returns-then-at-fields : goal.value_by_mark-returns-then-at-fields
value_by_mark-returns-then-at-fields g t c = search (laws.number (g.F.Fold.of_value c.args.fold) (g.F.Fold.of_formula c.args.fold))

pub value_by_mark-returns-else-at-fields : goal.value_by_mark-returns-else-at-fields
value_by_mark-returns-else-at-fields g t c = search (laws.no_number (g.F.Fold.of_value c.args.fold) (g.F.Fold.of_formula c.args.fold))

pub value_by_mark-returns-then-at-fields-2 : goal.value_by_mark-returns-then-at-fields-2
value_by_mark-returns-then-at-fields-2 g t c = search (laws.parameter (g.F.Fold.of_value c.args.fold) (g.F.Fold.of_formula c.args.fold))

pub value_by_mark-returns-else-at-fields-2 : goal.value_by_mark-returns-else-at-fields-2
value_by_mark-returns-else-at-fields-2 g t c = search (laws.no_parameter (g.F.Fold.of_value c.args.fold) (g.F.Fold.of_formula c.args.fold))

pub value_by_mark-returns-in-SumValue : goal.value_by_mark-returns-in-SumValue
value_by_mark-returns-in-SumValue g t c = search (laws.the_sum_value (g.F.Fold.of_value c.args.fold) (g.F.Fold.of_formula c.args.fold))

pub value_by_mark-returns-in-Arithmetic : goal.value_by_mark-returns-in-Arithmetic
value_by_mark-returns-in-Arithmetic g t c = search (laws.operation (g.F.Fold.of_value c.args.fold) (g.F.Fold.of_formula c.args.fold))

pub value_by_mark-returns-in-Choice : goal.value_by_mark-returns-in-Choice
value_by_mark-returns-in-Choice g t c = search (laws.the_choice (g.F.Fold.of_value c.args.fold) (g.F.Fold.of_formula c.args.fold))

pub value_by_mark-returns-in-Wrong : goal.value_by_mark-returns-in-Wrong
value_by_mark-returns-in-Wrong g t c = search (laws.wrong_v (g.F.Fold.of_value c.args.fold) (g.F.Fold.of_formula c.args.fold))
