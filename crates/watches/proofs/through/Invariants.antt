-- What is found and what is left give the whole.
use mathlib.Core.Path.{◌≡◌}
use Rattle.steps.specs.Arrays.{first_values}
use Rattle.watched.specs.Watched.{through_from}
use Rattle.watches.proofs.Laws as laws
use Rattle.watches.proofs.through.Given as goal

abbrev pub invariant-loop-i : goal.invariant-loop-i
invariant-loop-i l =
    laws.through_left l.mapping l.n l.read l.found l.i ≡ through_from 0 (first_values l.n 0 l.mapping) l.read
