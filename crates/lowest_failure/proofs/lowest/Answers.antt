-- Criterion 2, then the others.
use Rattle.lowest_failure.proofs.Search as laws
use Rattle.lowest_failure.proofs.lowest.Goals as goal

pub returns-then-not-holds2 : goal.returns-then-not-holds2
returns-then-not-holds2 c = search laws.second_fails

pub returns : goal.returns
returns c = search laws.second_holds
