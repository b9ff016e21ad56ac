-- Inside the invariant, with values there, and kept.
use Rattle.step_passes.proofs.Steps as laws
use Rattle.step_passes.proofs.internal_holds.Goals as goal

pub returns-then-not-inside : goal.returns-then-not-inside
returns-then-not-inside c = search laws.internal_out

pub returns-then-not-has_values : goal.returns-then-not-has_values
returns-then-not-has_values c = search laws.internal_lacks

pub returns : goal.returns
returns c = search laws.internal_kept
