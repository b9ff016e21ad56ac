-- The proof of `bench_formula`: the promise of `eval::formula` at depth 32.
use Rattle.eval_c.proofs.bench_formula.Goals as goal

pub returns : goal.returns
returns c = rw c.formula-r.ensures
