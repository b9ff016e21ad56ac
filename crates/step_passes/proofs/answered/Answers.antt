-- The partner, its condition, its data, where it leads.
use Rattle.step_passes.proofs.Steps as laws
use Rattle.step_passes.proofs.answered.Goals as goal

pub returns-then-j-eq0 : goal.returns-then-j-eq0
returns-then-j-eq0 c = search laws.answer_none

pub returns-then-not-condition : goal.returns-then-not-condition
returns-then-not-condition c = search laws.answer_off

pub returns-then-carries-carried : goal.returns-then-carries-carried
returns-then-carries-carried c = search laws.answer_differs

pub returns : goal.returns
returns c = search laws.answer_same
