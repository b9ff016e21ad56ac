-- `line_faults::shows6` asks for the terms of the line's kind.
use Rattle.line_faults.proofs.Laws as laws
use Rattle.line_faults.proofs.shows6.Goals as goal

pub returns : goal.returns
returns c = search laws.sixth_is
