-- What is found and what is left give the whole.
use mathlib.Core.Path.{◌≡◌}
use Rattle.steps.specs.Arrays.{first_values}
use Rattle.watched.specs.Watched.{all_of}
use Rattle.watches.proofs.Laws as laws
use Rattle.watches.proofs.all_of.Given as goal

abbrev pub invariant-loop-i : goal.invariant-loop-i
invariant-loop-i l = laws.all_left l.mapping l.n l.found l.i ≡ all_of (first_values l.n 0 l.mapping)
