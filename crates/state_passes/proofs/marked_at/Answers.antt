-- What is known, or the formula.
use Rattle.state_passes.proofs.Seeing as laws
use Rattle.state_passes.proofs.marked_at.Goals as goal

pub returns-then-row-sum : goal.returns-then-row-sum
returns-then-row-sum c = search laws.mark_kept

pub returns : goal.returns
returns c = search laws.mark_not_kept
