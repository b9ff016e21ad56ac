use Rattle.divisors.proofs.Laws as laws
use Rattle.divisors.proofs.KnowledgeFold.comparison.Goals as goal

pub returns : goal.returns
returns c = search laws.comparison_is
