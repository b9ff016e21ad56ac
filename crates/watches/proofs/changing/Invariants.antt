-- What is found and what is left give the whole.
use mathlib.Core.Path.{◌≡◌}
use lib.ListN.{drop}
use Rattle.design.specs.Line.{values_in}
use Rattle.watched.specs.Watched.{changes_from, changed_by_from}
use Rattle.watches.proofs.Laws as laws
use Rattle.watches.proofs.changing.Given as goal

abbrev pub invariant-loop-i : goal.invariant-loop-i
invariant-loop-i l =
    (laws.changes_left l.fields l.at l.n l.changes l.place l.i ≡ changes_from 0 (values_in l.n (drop l.at l.fields))) × (laws.by_left l.fields l.at l.n l.by l.place l.i ≡ changed_by_from 0 (values_in l.n (drop l.at l.fields)))
