-- The depth falls with every call.
use Rattle.term_check.proofs.+formula_value.Given as goal

abbrev pub decreases-formula : goal.decreases-formula
decreases-formula l = l.depth

abbrev pub decreases-value : goal.decreases-value
decreases-value l = l.depth
