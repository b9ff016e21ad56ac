-- `Desk::verdict` tells what the phase says.
use Rattle.desk.proofs.Answers as answers
use Rattle.desk.proofs.Numbers as numbers
use Rattle.desk.proofs.Desk.verdict.Goals as goal

pub returns-clause-value : goal.returns-clause-value
returns-clause-value c = search answers.told

pub returns-clause-answer_value : goal.returns-clause-answer_value
returns-clause-answer_value c = search (numbers.verdict_numbers_lem, answers.told)
