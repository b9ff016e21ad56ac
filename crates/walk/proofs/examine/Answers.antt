-- Values first; outside the invariant nothing more is tried.
use Rattle.walk.proofs.Walking as laws
use Rattle.walk.proofs.examine.Goals as goal

pub returns-then-not-holds : goal.returns-then-not-holds
returns-then-not-holds c = search laws.examine_lacks

pub returns-then-not-invariant : goal.returns-then-not-invariant
returns-then-not-invariant c = search laws.examine_outside

pub returns : goal.returns
returns c = search laws.examine_within
