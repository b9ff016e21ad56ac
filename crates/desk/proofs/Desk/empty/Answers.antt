-- A new desk holds no lines.
use Rattle.desk.proofs.Answers as answers
use Rattle.desk.proofs.Desk.empty.Goals as goal

pub returns : goal.returns
returns c = answers.new_desk c.none.result c.default.result c.none.ensures c.default.ensures
