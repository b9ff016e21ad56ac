-- The conjuncts in front, and the rest.
use Rattle.conjuncts.proofs.Conjuncts as laws
use Rattle.conjuncts.proofs.holds.Goals as goal

pub returns-then-not-front : goal.returns-then-not-front
returns-then-not-front c = search laws.fails_in_front

pub returns : goal.returns
returns c = search laws.by_the_rest
