-- The conjuncts in front, then the rest.
use Rattle.recall.proofs.Looking as laws
use Rattle.recall.proofs.idle.Goals as goal

pub returns-then-not-front : goal.returns-then-not-front
returns-then-not-front c = search laws.idle_front

pub returns-then-not-planned : goal.returns-then-not-planned
returns-then-not-planned c = search laws.idle_unknown

pub returns : goal.returns
returns c = search laws.idle_rest
