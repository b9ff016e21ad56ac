-- What is left of the rows gives the whole.
use mathlib.Core.Path.{◌≡◌}
use Rattle.state_passes.specs.Passes.{spec_between}
use Rattle.state_passes.proofs.Seeing as laws
use Rattle.state_passes.proofs.rows_replied_between.Given as goal

abbrev pub invariant-loop-i : goal.invariant-loop-i
invariant-loop-i l =
    laws.spec_left l.lines.fields.now l.lines.starts.now l.plan l.v l.t l.shape l.first l.end l.i ≡ spec_between l.lines.fields.now l.lines.starts.now l.shape l.plan l.first l.end l.v l.t
