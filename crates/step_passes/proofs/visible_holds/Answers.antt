-- Inside the invariant, with values there, and answered.
use Rattle.step_passes.proofs.Steps as laws
use Rattle.step_passes.proofs.visible_holds.Goals as goal

pub returns-then-not-inside : goal.returns-then-not-inside
returns-then-not-inside c = search laws.visible_out

pub returns-then-not-has_mapping : goal.returns-then-not-has_mapping
returns-then-not-has_mapping c = search laws.visible_lacks

pub returns : goal.returns
returns c = search laws.visible_answered
