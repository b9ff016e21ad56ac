-- The drop of the desk that stands there.
use Rattle.lent_desk.proofs.Laws as laws
use Rattle.lent_desk.proofs.drop_desk.Goals as goal

pub returns-clause-value : goal.returns-clause-value
returns-clause-value c = search laws.drop_number

pub returns-clause-keeps : goal.returns-clause-keeps
returns-clause-keeps c = search laws.drop_keeps
