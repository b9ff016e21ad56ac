-- `Desk::load` goes by the number of the phase.
use Rattle.desk.proofs.Answers as answers
use Rattle.desk.proofs.Numbers as numbers
use Rattle.desk.proofs.Desk.load.Goals as goal

pub returns-then-number-eq0-clause-value : goal.returns-then-number-eq0-clause-value
returns-then-number-eq0-clause-value c = search answers.load_done

pub returns-then-number-eq0-clause-answer_value : goal.returns-then-number-eq0-clause-answer_value
returns-then-number-eq0-clause-answer_value c = search (numbers.load_number_lem, answers.load_done)

pub returns-clause-value : goal.returns-clause-value
returns-clause-value c = search answers.load_refused

pub returns-clause-answer_value : goal.returns-clause-answer_value
returns-clause-answer_value c = search answers.refused_number
