-- `text_writer::text_bytes` adds up the lines' bytes: those counted and those still to be counted give the whole.
use Prim.Native.Nat.{◌+◌, ◌-◌, ◌*◌, ◌≤◌}
use mathlib.Core.Path.{◌≡◌}
use Rattle.text_writer.specs.Length.{bytes_from, bytes_in}
use Rattle.text_writer.proofs.text_bytes.Given as goal

abbrev pub invariant-loop-i : goal.invariant-loop-i
invariant-loop-i l = (l.bytes ≤ 24577 * l.i) × (l.bytes + bytes_from l.lines.starts.now (l.n - l.i) l.i ≡ bytes_in l.lines.starts.now l.n)
