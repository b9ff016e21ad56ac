-- Values first; outside the invariant nothing more is asked.
use Rattle.measurable.proofs.Measurable as laws
use Rattle.measurable.proofs.state_stays.Goals as goal

pub returns-then-not-apart : goal.returns-then-not-apart
returns-then-not-apart c = search laws.state_lacks

pub returns-then-not-invariant : goal.returns-then-not-invariant
returns-then-not-invariant c = search laws.state_outside

pub returns : goal.returns
returns c = search laws.state_inside
