-- Where the condition holds, the partner's.
use Rattle.state_passes.proofs.Seeing as laws
use Rattle.state_passes.proofs.replied.Goals as goal

pub returns-then-not-on : goal.returns-then-not-on
returns-then-not-on c = search laws.reply_off

pub returns-then-row-eq0 : goal.returns-then-row-eq0
returns-then-row-eq0 c = search laws.reply_none

pub returns : goal.returns
returns c = search laws.reply_on
