-- `Desk::advance` goes by the number of the phase.
use Rattle.desk.proofs.Answers as answers
use Rattle.desk.proofs.Numbers as numbers
use Rattle.desk.proofs.Desk.advance.Goals as goal

pub returns-then-number-eq0-clause-value : goal.returns-then-number-eq0-clause-value
returns-then-number-eq0-clause-value c = search answers.advance_done

pub returns-then-number-eq0-clause-answer_value : goal.returns-then-number-eq0-clause-answer_value
returns-then-number-eq0-clause-answer_value c = search (numbers.advance_number_lem, answers.advance_done)

pub returns-then-number-eq0-clause-answer_value_2 : goal.returns-then-number-eq0-clause-answer_value_2
returns-then-number-eq0-clause-answer_value_2 c = search (numbers.advance_count_lem, answers.advance_done)

pub returns-clause-value : goal.returns-clause-value
returns-clause-value c = search answers.advance_refused

pub returns-clause-answer_value_2 : goal.returns-clause-answer_value_2
returns-clause-answer_value_2 c = search answers.refused_count
