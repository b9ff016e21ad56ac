-- `pass_over` takes at least a byte off what is left to pass over: those passed over so far are the first of what was left.
use Rattle.std.proofs.Common.{ℕ, List, ◌≡◌, ◌+◌, length}
use Rattle.std.specs.Io.KnownBytes.{Consumes}
use Rattle.streams.specs.Ahead.{left_of}
use Rattle.call_input.proofs.pass_over.Given as goal

abbrev pub invariant-loop-left : goal.invariant-loop-left
invariant-loop-left g l =
    (bytes : List ℕ) × (length bytes + l.left ≡ l.n) × Consumes (left_of g.R.Read.remaining l.initial.input) (left_of g.R.Read.remaining l.input) bytes

abbrev pub decreases-loop-left : goal.decreases-loop-left
decreases-loop-left g l = l.left
