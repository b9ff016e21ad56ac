use Rattle.divisors.proofs.Laws as laws
use Rattle.divisors.proofs.KnowledgeFold.connective.Goals as goal

pub returns : goal.returns
returns c = search laws.connective_is
