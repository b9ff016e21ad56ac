-- Without a risk nothing is asked.
use Rattle.step_passes.proofs.Steps as laws
use Rattle.step_passes.proofs.has_values.Goals as goal

pub returns-then-risk-eq0 : goal.returns-then-risk-eq0
returns-then-risk-eq0 c = search laws.values_nothing

pub returns : goal.returns
returns c = search laws.values_asked
