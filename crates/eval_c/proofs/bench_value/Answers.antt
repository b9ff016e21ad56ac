-- The proof of `bench_value`: the promise of `eval::value` at depth 32.
use Rattle.eval_c.proofs.bench_value.Goals as goal

pub returns : goal.returns
returns c = rw c.value-r.ensures
