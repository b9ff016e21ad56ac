-- What is left of the sum values gives the whole.
use mathlib.Core.Path.{◌≡◌}
use Rattle.design.specs.Loaded.{design_at}
use Rattle.start.specs.Start.{no_internal_row}
use Rattle.start.proofs.FirstStep as laws
use Rattle.start.proofs.no_internal_row.Given as goal

abbrev pub invariant-loop-sum : goal.invariant-loop-sum
invariant-loop-sum l =
    laws.sums_left l.lines.fields.now l.lines.starts.now l.shape l.v l.k l.span l.sum ≡ no_internal_row (design_at l.lines.fields.now l.lines.starts.now l.shape) l.v l.k
