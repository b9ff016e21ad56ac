-- What is left to try gives the whole.
use mathlib.Core.Path.{◌≡◌}
use Rattle.state_passes.specs.Passes.{visible_looks}
use Rattle.state_passes.proofs.Seeing as laws
use Rattle.state_passes.proofs.visible_looks.Given as goal

abbrev pub invariant-loop-sum : goal.invariant-loop-sum
invariant-loop-sum l =
    laws.visible_left l.lines.fields.now l.lines.starts.now l.v l.t l.shape l.row l.first l.sum ≡ visible_looks l.lines.fields.now l.lines.starts.now l.shape l.row l.first l.v l.t
