-- Counts and phase as they are told.
use Rattle.lent_desk.proofs.Laws as laws
use Rattle.lent_desk.proofs.desk_in.Goals as goal

pub returns : goal.returns
returns c = search laws.desk_is
