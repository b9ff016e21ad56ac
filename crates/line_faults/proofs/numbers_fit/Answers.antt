-- `line_faults::numbers_fit` asks a line, by its kind.
use Rattle.line_faults.proofs.Laws as laws
use Rattle.line_faults.proofs.numbers_fit.Goals as goal

pub returns : goal.returns
returns c = search laws.numbers_of
