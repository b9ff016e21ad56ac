-- By its definition.
use Rattle.watches.proofs.Laws as laws
use Rattle.watches.proofs.meeting.Goals as goal

pub returns : goal.returns
returns c = search laws.meeting_is
