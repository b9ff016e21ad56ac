-- `put_line` stores a line of marks.
use Rattle.true_marks.proofs.Turns as laws
use Rattle.true_marks.proofs.put_line.Goals as goal

pub returns : goal.returns
returns c = search laws.kind_stored
