-- What the evaluator answers is what is meant.
use Rattle.told_terms.proofs.Laws as laws
use Rattle.told_terms.proofs.formula.Goals as goal

pub returns : goal.returns
returns c = search laws.formula_told_lem
