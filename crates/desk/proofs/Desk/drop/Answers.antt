-- `Desk::drop` goes by the number of the phase.
use Rattle.desk.proofs.Answers as answers
use Rattle.desk.proofs.Desk.drop.Goals as goal

pub returns-then-number-eq0-clause-value : goal.returns-then-number-eq0-clause-value
returns-then-number-eq0-clause-value c = search answers.drop_done

pub returns-clause-value : goal.returns-clause-value
returns-clause-value c = search answers.drop_refused
