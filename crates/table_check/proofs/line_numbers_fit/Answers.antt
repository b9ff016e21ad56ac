-- `table_check::line_numbers_fit` asks one line, by its kind.
use Rattle.table_check.proofs.Lines as lines
use Rattle.table_check.proofs.line_numbers_fit.Goals as goal

pub returns : goal.returns
returns c = search lines.numbers_of
