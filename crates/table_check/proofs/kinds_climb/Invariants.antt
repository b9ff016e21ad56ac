-- `table_check::kinds_climb` looks at the kinds line by line.
use Prim.Native.Nat.{◌≤◌}
use mathlib.Core.Path.{◌≡◌}
use Rattle.kinds.specs.Kinds.{whole_text}
use Rattle.design.specs.Tests.{climbs}
use Rattle.design.specs.Loaded.{held_lines}
use Rattle.table_check.proofs.Lines as lines
use Rattle.table_check.proofs.kinds_climb.Given as goal

abbrev pub invariant-loop-i : goal.invariant-loop-i
invariant-loop-i l =
    (l.i ≤ l.n) × (climbs whole_text l.lowest (lines.lines_from l.fields l.starts l.n l.i) ≡ climbs whole_text 0 (held_lines l.fields l.starts l.n))
