-- What is left of the rows gives the whole.
use mathlib.Core.Path.{◌≡◌}
use Rattle.state_passes.specs.Passes.{impl_between}
use Rattle.state_passes.proofs.Seeing as laws
use Rattle.state_passes.proofs.rows_seen_between.Given as goal

abbrev pub invariant-loop-i : goal.invariant-loop-i
invariant-loop-i l =
    laws.impl_left l.lines.fields.now l.lines.starts.now l.plan l.v l.t l.shape l.m l.first l.end l.quiet l.i ≡ impl_between l.lines.fields.now l.lines.starts.now l.shape l.plan l.first l.end l.v l.t l.m
