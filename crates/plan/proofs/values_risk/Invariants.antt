-- What is left of the values gives the whole, with what is known.
use mathlib.Core.Path.{◌≡◌}
use Rattle.plan.specs.Plan.{values_risk}
use Rattle.plan.proofs.Risks as laws
use Rattle.plan.proofs.values_risk.Given as goal

abbrev pub invariant-loop-i : goal.invariant-loop-i
invariant-loop-i l = laws.risk_left l.fields l.at l.n l.risk l.place l.i ≡ values_risk l.fields l.at l.n
