-- `line_faults::length_fits` asks a line, by its kind.
use Rattle.line_faults.proofs.Laws as laws
use Rattle.line_faults.proofs.length_fits.Goals as goal

pub returns-then-has_terms : goal.returns-then-has_terms
returns-then-has_terms c = search laws.length_least

pub returns : goal.returns
returns c = search laws.length_exactly
