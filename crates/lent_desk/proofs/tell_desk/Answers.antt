-- By the phase that stands there.
use Rattle.lent_desk.proofs.Laws as laws
use Rattle.lent_desk.proofs.tell_desk.Goals as goal

pub returns : goal.returns
returns c = search laws.verdict_numbers_lem
