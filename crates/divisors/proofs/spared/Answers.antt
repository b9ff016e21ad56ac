-- What is taken away is no more than there is.
use Rattle.divisors.proofs.Laws as laws
use Rattle.divisors.proofs.spared.Goals as goal

pub overflow_sub-result : goal.overflow_sub-result
overflow_sub-result c = search laws.common_below
