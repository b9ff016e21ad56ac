-- `line_faults::line_end`: what is left of the line, from here, gives its length.
use Prim.Native.Nat.{◌+◌}
use mathlib.Core.Path.{◌≡◌}
use lib.ListN.{drop}
use Rattle.line_faults.specs.Tests as tests
use Rattle.line_faults.proofs.line_end.Given as goal

abbrev pub invariant-loop-i : goal.invariant-loop-i
invariant-loop-i l = l.i + tests.line_length (drop l.i l.text) ≡ l.at + tests.line_length (drop l.at l.text)
