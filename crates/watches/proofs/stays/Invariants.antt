-- What is found and what is left give the whole.
use mathlib.Core.Path.{◌≡◌}
use Rattle.steps.specs.Arrays.{first_values}
use Rattle.watched.specs.Watched.{stays}
use Rattle.watches.proofs.Laws as laws
use Rattle.watches.proofs.stays.Given as goal

abbrev pub invariant-loop-i : goal.invariant-loop-i
invariant-loop-i l = laws.stays_left l.mapping l.n l.changed l.found l.i ≡ stays l.changed (first_values l.n 0 l.mapping)
