-- The plan of the shape.
use Rattle.walk.proofs.Walking as laws
use Rattle.walk.proofs.plan.Goals as goal

pub returns : goal.returns
returns c = search laws.plan_made
