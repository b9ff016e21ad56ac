-- `table_check::line_length`: a line ends where the next starts, or with the fields.
use Rattle.std.proofs.Common.{rules}
use Rattle.table_check.proofs.Lines as lines
use Rattle.table_check.proofs.line_length.Goals as goal

pub returns-then-starts-i : goal.returns-then-starts-i
returns-then-starts-i c = search lines.no_line

pub returns : goal.returns
returns c = search (lines.line_there, rules)
