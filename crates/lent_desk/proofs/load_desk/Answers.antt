-- The load of the desk that stands there.
use Rattle.lent_desk.proofs.Laws as laws
use Rattle.lent_desk.proofs.load_desk.Goals as goal

pub returns-clause-value : goal.returns-clause-value
returns-clause-value c = search laws.load_number_lem

pub returns-clause-keeps : goal.returns-clause-keeps
returns-clause-keeps c = search laws.load_keeps
