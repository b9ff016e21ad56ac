-- What is left to store gives the whole; past the eighth value nothing is stored.
use mathlib.Core.Path.{◌≡◌}
use mathlib.Core.List.{map}
use lib.ListN.{length, drop}
use Rattle.terms.specs.Tree.{Value}
use Rattle.reads.specs.Reads.{reads_v}
use Rattle.design.specs.Line.{values_in}
use Rattle.steps.specs.Arrays.{padded}
use Rattle.watches.proofs.Laws as laws
use Rattle.watches.proofs.values_reads.Given as goal

abbrev pub invariant-loop-i : goal.invariant-loop-i
invariant-loop-i l =
    (length l.out ≡ 8) × (laws.reads_left l.fields l.at l.n l.out l.place l.i ≡ padded (map (λ (t : Value). reads_v t) (values_in l.n (drop l.at l.fields))))
