-- Of an internal row, where there are marks.
use Rattle.plan.proofs.Planned as laws
use Rattle.plan.proofs.mark_of.Goals as goal

pub returns-then-shape-eq0 : goal.returns-then-shape-eq0
returns-then-shape-eq0 c = search laws.mark_absent

pub returns-then-action-ne0 : goal.returns-then-action-ne0
returns-then-action-ne0 c = search laws.mark_visible

pub returns : goal.returns
returns c = search laws.mark_internal
