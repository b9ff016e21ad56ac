-- What is left of the looks gives the whole.
use mathlib.Core.Path.{◌≡◌}
use Rattle.state_passes.specs.Passes.{reply_looks}
use Rattle.state_passes.proofs.Seeing as laws
use Rattle.state_passes.proofs.reply_looks.Given as goal

abbrev pub invariant-loop-sum : goal.invariant-loop-sum
invariant-loop-sum l =
    laws.reply_left l.lines.fields.now l.lines.starts.now l.v l.t l.implementation l.row l.sum ≡ reply_looks l.lines.fields.now l.lines.starts.now l.implementation l.row l.v l.t
