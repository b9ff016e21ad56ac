-- The depth falls with every call.
use Rattle.blocks.proofs.+first_failing.Given as goal

abbrev pub decreases-first_failing : goal.decreases-first_failing
decreases-first_failing l = l.depth
