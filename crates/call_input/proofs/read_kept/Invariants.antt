-- `read_kept` puts one byte after the other: those put so far are the first of what was left.
use Rattle.std.proofs.Common.{take}
use Rattle.std.specs.Io.KnownBytes.{Consumes}
use Rattle.streams.specs.Ahead.{left_of}
use Rattle.call_input.proofs.read_kept.Given as goal

abbrev pub invariant-loop-byte : goal.invariant-loop-byte
invariant-loop-byte g l = Consumes (left_of g.R.Read.remaining l.initial.input) (left_of g.R.Read.remaining l.input) (take l.byte-index l.room)
