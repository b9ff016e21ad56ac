-- Invariant first; where it holds, the others.
use Rattle.tenth.proofs.Laws as laws
use Rattle.tenth.proofs.apart.Goals as goal

pub returns-then-sure : goal.returns-then-sure
returns-then-sure c = search laws.apart_sure

pub returns-then-not-invariant : goal.returns-then-not-invariant
returns-then-not-invariant c = search laws.apart_lacks

pub returns-then-not-invariant-2 : goal.returns-then-not-invariant-2
returns-then-not-invariant-2 c = search laws.apart_outside

pub returns : goal.returns
returns c = search laws.apart_others
