-- What is left to tell gives the whole; past the eighth value nothing is told.
use mathlib.Core.Path.{◌≡◌}
use lib.ListN.{length, drop}
use Rattle.design.specs.Line.{values_in}
use Rattle.told_terms.specs.Terms.{values_told}
use Rattle.told_terms.proofs.Laws as laws
use Rattle.told_terms.proofs.values.Given as goal

abbrev pub invariant-loop-i : goal.invariant-loop-i
invariant-loop-i l =
    (length l.told ≡ 8) × (laws.told_left l.fields l.values l.sum l.at l.n l.told l.place l.i ≡ values_told (values_in l.n (drop l.at l.fields)) l.values l.sum)
