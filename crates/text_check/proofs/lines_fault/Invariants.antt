-- `text_check::lines_fault` finds the lower of the faults 2 and 3: at each line's start the fault of what is left, with what was found so
-- far, is that of the whole text.
use Rattle.std.proofs.Common.{◌≡◌, ◌-◌, ◌*◌, ◌≤◌, length, drop}
use Rattle.reader.specs.Text.{lines_fault}
use Rattle.reader.proofs.Turns as turns
use Rattle.text_check.proofs.lines_fault.Given as goal

abbrev pub invariant-loop-at : goal.invariant-loop-at
invariant-loop-at l =
    (l.at ≤ length l.text) × ((6 * l.total ≤ l.at) × (turns.fault_after l.long l.total (drop l.at l.text) ≡ lines_fault l.text))

abbrev pub decreases-loop-at : goal.decreases-loop-at
decreases-loop-at l = length l.text - l.at
