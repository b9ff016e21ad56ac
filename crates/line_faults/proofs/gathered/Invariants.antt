-- `line_faults::gathered`: what is left of the part makes the whole of the number so far.
use Rattle.std.proofs.Common.{ℕ, ◌≡◌, ◌-◌, List, length, drop}
use Rattle.reader.specs.Line.{fields_of}
use Rattle.reader.specs.Text.{fields_by_line}
use Rattle.line_faults.specs.Tests as tests
use Rattle.line_faults.proofs.gathered.Given as goal

abbrev pub invariant-loop-at : goal.invariant-loop-at
invariant-loop-at g l =
    (by : ℕ → List ℕ → ℕ) → ((n : _) (line : _) (r : _) → goal.S-post g l.step n line r → r ≡ by n (fields_of line.now))
    → tests.gathered by l.n (fields_by_line (drop l.at l.part)) ≡ tests.gathered by l.start (fields_by_line l.part)

abbrev pub decreases-loop-at : goal.decreases-loop-at
decreases-loop-at g l = length l.part - l.at
