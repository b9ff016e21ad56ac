-- Where the second is nothing; where they agree, and where not.
use Rattle.divisors.proofs.Laws as laws
use Rattle.divisors.proofs.both.Goals as goal

pub returns-then-b-eq-NOTHING : goal.returns-then-b-eq-NOTHING
returns-then-b-eq-NOTHING c = search laws.both_first

pub returns-then-agree : goal.returns-then-agree
returns-then-agree c = search laws.both_agree

pub returns : goal.returns
returns c = search laws.both_not
