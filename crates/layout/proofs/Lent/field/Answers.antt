-- The field of the line that starts there.
use borrow.Author.Rules.{rules}
use Rattle.layout.proofs.Lent.field.Goals as goal

pub returns : goal.returns
returns c = rw (← c.line.ensures) (search rules)
