-- Where neither could lack a value, and where one could.
use Rattle.divisors.proofs.Laws as laws
use Rattle.divisors.proofs.either_branch.Goals as goal

pub returns-then-b-eq-NOTHING : goal.returns-then-b-eq-NOTHING
returns-then-b-eq-NOTHING c = search laws.branches_safe
