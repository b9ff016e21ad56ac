-- `writer::column` is the byte in the column of a weight.
use borrow.Author.Tests.{lt-ltb, le-ltb}
use Rattle.columns.specs.Columns.{column_of}
use Rattle.writer.proofs.column.Goals as goal

pub returns-then-n-weight : goal.returns-then-n-weight
unfolding column_of
returns-then-n-weight c = rw (lt-ltb _ _ c.if-n-weight.true)

pub returns-else-n-weight : goal.returns-else-n-weight
unfolding column_of
returns-else-n-weight c = rw (le-ltb _ _ c.if-n-weight.false)
