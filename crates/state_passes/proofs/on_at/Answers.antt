-- What is known, or the condition anew.
use Rattle.state_passes.proofs.Seeing as laws
use Rattle.state_passes.proofs.on_at.Goals as goal

pub returns-then-row-sum : goal.returns-then-row-sum
returns-then-row-sum c = search laws.kept_known

pub returns : goal.returns
returns c = search laws.not_kept
