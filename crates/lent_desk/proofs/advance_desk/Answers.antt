-- The advance of the desk that stands there.
use Rattle.lent_desk.proofs.Laws as laws
use Rattle.lent_desk.proofs.advance_desk.Goals as goal

pub returns-clause-value : goal.returns-clause-value
returns-clause-value c = search laws.advance_returns

pub returns-clause-number_after : goal.returns-clause-number_after
returns-clause-number_after c = search laws.advance_tells

pub returns-clause-keeps : goal.returns-clause-keeps
returns-clause-keeps c = search laws.advance_keeps
