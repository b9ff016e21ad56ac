-- The loop over the sum values: for none so far is the row enabled.
use Rattle.row_looks.proofs.Looks as laws
use Rattle.row_looks.proofs.enabled_from.Given as goal

abbrev pub invariant-loop-sum : goal.invariant-loop-sum
invariant-loop-sum l = laws.Off l.fields l.row l.v l.from l.sum
