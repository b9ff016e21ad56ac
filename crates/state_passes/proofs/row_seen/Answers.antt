-- The conjuncts in front, then the rest.
use Rattle.state_passes.proofs.Seeing as laws
use Rattle.state_passes.proofs.row_seen.Goals as goal

pub returns-then-not-front : goal.returns-then-not-front
returns-then-not-front c = search laws.row_off

pub returns : goal.returns
returns c = search laws.row_on
