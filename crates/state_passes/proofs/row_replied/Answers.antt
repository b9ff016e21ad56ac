-- The conjuncts in front, then the rest.
use Rattle.state_passes.proofs.Seeing as laws
use Rattle.state_passes.proofs.row_replied.Goals as goal

pub returns-then-not-front : goal.returns-then-not-front
returns-then-not-front c = search laws.reply_guarded

pub returns : goal.returns
returns c = search laws.reply_row
