-- `line_faults::small` is a count where it fits.
use mathlib.Core.Path.{◌∙◌}
use Rattle.line_faults.proofs.Laws as laws
use Rattle.line_faults.proofs.small.Goals as goal

pub returns : goal.returns
returns c = c.unwrap_or.ensures ∙ search laws.small_is
