-- What is left of the values gives the whole.
use mathlib.Core.Path.{◌≡◌}
use Rattle.plan.specs.Plan.{values_free}
use Rattle.plan.proofs.Planned as laws
use Rattle.plan.proofs.values_free.Given as goal

abbrev pub invariant-loop-i : goal.invariant-loop-i
invariant-loop-i l = laws.free_left l.fields l.at l.n l.place l.i ≡ values_free l.fields l.at l.n
