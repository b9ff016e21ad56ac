-- `line_check::line_fits`: by the entry of the line's kind.
use Rattle.line_check.proofs.Laws as laws
use Rattle.line_check.proofs.line_fits.Goals as goal

pub returns-then-not-has_terms : goal.returns-then-not-has_terms
returns-then-not-has_terms c = search laws.of_nothing

pub returns : goal.returns
returns c = search laws.of_terms
