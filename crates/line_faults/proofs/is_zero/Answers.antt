-- `line_faults::is_zero`: the value `0 0` is two fields, both 0.
use Rattle.line_faults.proofs.Laws as laws
use Rattle.line_faults.proofs.is_zero.Goals as goal

pub returns-then-count-lt2 : goal.returns-then-count-lt2
returns-then-count-lt2 c = search laws.zero_early

pub returns : goal.returns
returns c = search laws.zero_both
