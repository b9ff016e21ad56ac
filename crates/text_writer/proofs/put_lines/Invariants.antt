-- `text_writer::put_lines` writes the lines one by one: writing those still ahead, from here, gives the whole.
use Prim.Native.Nat.{◌+◌, ◌-◌}
use mathlib.Core.Path.{◌≡◌}
use lib.ListN.{length}
use lib.Seq.{sets}
use Rattle.reader.specs.Text.{text_of}
use Rattle.design.specs.Loaded.{held_lines}
use Rattle.text_writer.specs.Length.{bytes_from, bytes_in}
use Rattle.text_writer.proofs.Writing.{lines_to_come}
use Rattle.text_writer.proofs.put_lines.Given as goal

abbrev pub invariant-loop-i : goal.invariant-loop-i
invariant-loop-i l =
    (length l.buffer ≡ length l.initial.buffer) × (l.at + bytes_from l.lines.starts.now (l.n - l.i) l.i ≡ bytes_in l.lines.starts.now l.n)
    × (sets l.buffer l.at (text_of (lines_to_come l.lines.fields.now l.lines.starts.now l.n l.i)) ≡ sets l.initial.buffer 0 (text_of (held_lines l.lines.fields.now l.lines.starts.now l.n)))
