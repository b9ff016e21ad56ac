-- What two sets have in common is in the first.
use lib.Bits.{and_le_l}
use Rattle.watches.proofs.without.Goals as goal

pub overflow_sub-result : goal.overflow_sub-result
overflow_sub-result c = search and_le_l
