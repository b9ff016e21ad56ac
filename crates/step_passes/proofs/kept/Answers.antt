-- The mapping, then the measure.
use Rattle.step_passes.proofs.Steps as laws
use Rattle.step_passes.proofs.kept.Goals as goal

pub returns-then-not-same : goal.returns-then-not-same
returns-then-not-same c = search laws.kept_not

pub returns-then-not-marked : goal.returns-then-not-marked
returns-then-not-marked c = search laws.kept_unmarked

pub returns : goal.returns
returns c = search laws.kept_lowers
