-- The depth falls with every call but those from the front, which count one more: the measures are twice the depth, and twice the depth
-- and 1.
use Rattle.std.proofs.Common.{◌+◌, ◌*◌}
use Rattle.term_fold.proofs.+formula_formula_by_mark_value_value_by_mark.Given as goal

abbrev pub decreases-formula : goal.decreases-formula
decreases-formula g l = 2 * l.depth + 1

abbrev pub decreases-formula_by_mark : goal.decreases-formula_by_mark
decreases-formula_by_mark g l = 2 * l.depth

abbrev pub decreases-value : goal.decreases-value
decreases-value g l = 2 * l.depth + 1

abbrev pub decreases-value_by_mark : goal.decreases-value_by_mark
decreases-value_by_mark g l = 2 * l.depth
