-- `read_line` puts one byte after the other: those put so far are the first of what was left.
use Rattle.std.proofs.Common.{take, length, ◌≡◌, ◌≤◌}
use Rattle.std.specs.Io.KnownBytes.{Consumes}
use Rattle.streams.specs.Ahead.{left_of}
use Rattle.call_input.proofs.read_line.Given as goal

abbrev pub invariant-loop-n : goal.invariant-loop-n
invariant-loop-n g l =
    (length l.bytes ≡ 28)
    × (l.n ≤ 28 → Consumes (left_of g.R.Read.remaining l.initial.input) (left_of g.R.Read.remaining l.input) (take l.n l.bytes))
