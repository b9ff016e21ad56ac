-- An empty desk.
use Rattle.lent_desk.proofs.Laws as laws
use Rattle.lent_desk.proofs.new_desk.Goals as goal

pub returns : goal.returns
returns c = search laws.keeps_same
