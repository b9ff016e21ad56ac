-- What is left to store gives the whole; past the eighth value nothing is stored.
use mathlib.Core.Path.{◌≡◌}
use lib.ListN.{length}
use lib.Seq.{sets}
use Rattle.steps.specs.Arrays.{values_at}
use Rattle.steps.proofs.Arrays as laws
use Rattle.steps.proofs.put_values.Given as goal

abbrev pub invariant-loop-i : goal.invariant-loop-i
invariant-loop-i l =
    (length l.out ≡ 8) × (laws.values_left l.fields l.v l.sum l.at l.n l.initial.out l.out l.place l.i ≡ sets l.initial.out 0 (values_at l.fields l.at l.n l.v l.sum))
