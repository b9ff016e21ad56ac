-- `test_columns::run_cases` ends, since each case takes the place on.
use Rattle.std.proofs.Common.{◌-◌, length}
use Rattle.test_columns.proofs.run_cases.Given as goal

abbrev pub decreases-loop-at : goal.decreases-loop-at
decreases-loop-at g l = length l.input - l.at
