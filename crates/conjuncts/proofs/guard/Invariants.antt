-- What is left to evaluate gives the whole.
use mathlib.Core.Path.{◌≡◌}
use Prim.Native.Nat.{◌-◌}
use Rattle.conjuncts.proofs.Conjuncts as laws
use Rattle.conjuncts.specs.Conjuncts.{guard_in}
use Rattle.conjuncts.proofs.guard.Given as goal

abbrev pub invariant-loop : goal.invariant-loop
invariant-loop l =
    laws.guard_left l.fields l.v l.sum l.at l.n l.place l.depth l.counter ≡ guard_in l.fields l.v l.sum l.n l.at 32
