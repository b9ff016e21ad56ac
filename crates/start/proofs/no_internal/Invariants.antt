-- What is left of the rows gives the whole.
use mathlib.Core.Path.{◌≡◌}
use Rattle.decision.specs.Tests.{no_internal_b}
use Rattle.design.specs.Loaded.{design_at}
use Rattle.start.proofs.FirstStep as laws
use Rattle.start.proofs.no_internal.Given as goal

abbrev pub invariant-loop-i : goal.invariant-loop-i
invariant-loop-i l =
    laws.rows_left l.lines.fields.now l.lines.starts.now l.shape l.v l.i ≡ no_internal_b (design_at l.lines.fields.now l.lines.starts.now l.shape) l.v
