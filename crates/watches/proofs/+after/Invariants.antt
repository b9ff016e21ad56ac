-- The depth falls with every call.
use Rattle.watches.proofs.+after.Given as goal

abbrev pub decreases-after : goal.decreases-after
decreases-after l = l.depth
