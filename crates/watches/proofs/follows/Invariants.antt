-- What is found and what is left give the whole.
use mathlib.Core.Path.{◌≡◌}
use lib.ListN.{drop}
use Rattle.design.specs.Line.{values_in}
use Rattle.steps.specs.Arrays.{first_values}
use Rattle.watched.specs.Watched.{follows_from}
use Rattle.watches.proofs.Laws as laws
use Rattle.watches.proofs.follows.Given as goal

abbrev pub invariant-loop-i : goal.invariant-loop-i
invariant-loop-i l =
    laws.follows_left l.fields l.mapping l.at l.count l.n l.changed l.found l.place l.i ≡ follows_from (first_values l.n 0 l.mapping) l.changed 0 (first_values l.n 0 l.mapping) (values_in l.count (drop l.at l.fields))
