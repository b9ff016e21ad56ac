-- `table_check::line_field` is a field of a line that a desk's arrays hold.
use borrow.Author.Rules.{rules}
use Rattle.table_check.proofs.Lines as lines
use Rattle.table_check.proofs.line_field.Goals as goal

pub overflow_add-start : goal.overflow_add-start
overflow_add-start c = search (lines.place_fits, rules)

pub returns-then-j-line_length : goal.returns-then-j-line_length
returns-then-j-line_length c = search lines.field_within

pub returns-else-j-line_length : goal.returns-else-j-line_length
returns-else-j-line_length c = search lines.field_past
