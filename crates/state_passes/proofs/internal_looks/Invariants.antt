-- What is left to see gives the whole.
use mathlib.Core.Path.{◌≡◌}
use Rattle.state_passes.specs.Passes.{internal_looks}
use Rattle.state_passes.proofs.Seeing as laws
use Rattle.state_passes.proofs.internal_looks.Given as goal

abbrev pub invariant-loop-sum : goal.invariant-loop-sum
invariant-loop-sum l =
    laws.internal_left l.lines.fields.now l.lines.starts.now l.v l.t l.shape l.row l.first l.m l.quiet l.sum ≡ internal_looks l.lines.fields.now l.lines.starts.now l.shape l.row l.first l.v l.t l.m
