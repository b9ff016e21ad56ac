-- The field at a place after the start of a line.
use borrow.Author.Rules.{rules}
use lib.Seq.{get_or-drop}
use Rattle.layout.proofs.field_of.Goals as goal

pub returns : goal.returns
returns c = rw get_or-drop (search rules)
