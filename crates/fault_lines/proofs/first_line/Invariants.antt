-- `fault_lines::first_line`: no line so far, from `from` on, shows the fault.
use Prim.Native.Nat.{◌-◌}
use lib.ListN.{length}
use Rattle.fault_lines.proofs.Shown as shown
use Rattle.fault_lines.proofs.first_line.Given as goal

abbrev pub invariant-loop-at : goal.invariant-loop-at
invariant-loop-at l = shown.Sought l.text l.fault l.from l.at l.line

abbrev pub decreases-loop-at : goal.decreases-loop-at
decreases-loop-at l = length l.text - l.at
