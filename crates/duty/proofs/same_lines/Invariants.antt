-- `duty::same_lines` compares one line after the other.
use Prim.Native.Nat.{◌≤◌}
use mathlib.Core.Path.{◌≡◌}
use Rattle.duty.specs.Arrays.{same_lines_from}
use Rattle.duty.proofs.Laws as laws
use Rattle.duty.proofs.same_lines.Given as goal

abbrev pub invariant-loop-k : goal.invariant-loop-k
invariant-loop-k l =
    (l.k ≤ l.count) × (laws.lines_to_come l.lines.fields.now l.lines.starts.now l.i l.due.fields.now l.due.starts.now l.j l.count l.k ≡ same_lines_from l.lines.fields.now l.lines.starts.now l.i l.due.fields.now l.due.starts.now l.j l.count)
