-- What is left to ask gives the whole.
use mathlib.Core.Path.{◌≡◌}
use Rattle.defined.specs.Defined.{have_in}
use Rattle.defined.proofs.Laws as laws
use Rattle.defined.proofs.have.Given as goal

abbrev pub invariant-loop-i : goal.invariant-loop-i
invariant-loop-i l = laws.have_left l.fields l.v l.sum l.at l.n l.place l.i ≡ have_in l.fields l.at l.n l.v l.sum
