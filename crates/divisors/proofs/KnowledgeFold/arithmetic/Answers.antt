use Rattle.divisors.proofs.Laws as laws
use Rattle.divisors.proofs.KnowledgeFold.arithmetic.Goals as goal

pub returns : goal.returns
returns c = search laws.operation_is
