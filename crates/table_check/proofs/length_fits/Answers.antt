-- `table_check::length_fits` asks one line, by its kind.
use Rattle.table_check.proofs.Lines as lines
use Rattle.table_check.proofs.length_fits.Goals as goal

pub returns-then-has_terms : goal.returns-then-has_terms
returns-then-has_terms c = search lines.length_least

pub returns : goal.returns
returns c = search lines.length_exactly
