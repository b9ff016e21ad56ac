-- What is left to ask gives the whole.
use mathlib.Core.Path.{◌≡◌}
use Rattle.tenth.specs.Tenth.{rows_by}
use Rattle.tenth.proofs.Laws as laws
use Rattle.tenth.proofs.rows.Given as goal

abbrev pub invariant-loop-i : goal.invariant-loop-i
invariant-loop-i l =
    laws.rows_left l.lines.fields.now l.lines.starts.now l.plan l.v l.shape l.process l.from l.i ≡ rows_by l.lines.fields.now l.lines.starts.now l.shape l.process l.plan l.from l.v
