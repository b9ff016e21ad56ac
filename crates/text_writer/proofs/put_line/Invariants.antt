-- `text_writer::put_line` writes the fields one by one: writing those still ahead, from here, gives the whole.
use Prim.Native.Nat.{◌+◌, ◌*◌, ◌≤◌}
use mathlib.Core.Path.{◌≡◌}
use lib.ListN.{length}
use lib.Seq.{sets}
use Rattle.text_writer.specs.Length.{line_text}
use Rattle.text_writer.proofs.put_line.Given as goal

abbrev pub invariant-loop-k : goal.invariant-loop-k
invariant-loop-k l =
    (l.k ≤ l.count) × (length l.buffer ≡ length l.initial.buffer)
    × (sets l.buffer (l.at + 6 * l.k) (line_text l.fields (l.from + l.k) l.to) ≡ sets l.initial.buffer l.at (line_text l.fields l.from l.to))
