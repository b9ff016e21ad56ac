-- `table_check::count_ranks` counts line by line: those passed and those still ahead are all of them.
use Prim.Native.Nat.{◌≤◌}
use Rattle.table_check.proofs.Lines as lines
use Rattle.table_check.proofs.count_ranks.Given as goal

abbrev pub invariant-loop-i : goal.invariant-loop-i
invariant-loop-i l = (l.i ≤ l.n) × lines.Passed l.fields l.starts l.n l.i l.tally
