-- `all` looks at the line of marks, if there is one.
use Rattle.true_marks.proofs.Turns as laws
use Rattle.true_marks.proofs.all.Goals as goal

pub returns-then-shape-eq0 : goal.returns-then-shape-eq0
returns-then-shape-eq0 c = search laws.no_line

pub returns : goal.returns
returns c = search laws.a_line
