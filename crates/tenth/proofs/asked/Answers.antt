-- What is asked with the measure apart, then the measure.
use Rattle.tenth.proofs.Laws as laws
use Rattle.tenth.proofs.asked.Goals as goal

pub returns-then-not-apart : goal.returns-then-not-apart
returns-then-not-apart c = search laws.asked_apart

pub returns-then-safe_at : goal.returns-then-safe_at
returns-then-safe_at c = search laws.asked_safe

pub returns-then-not-invariant : goal.returns-then-not-invariant
returns-then-not-invariant c = search laws.asked_outside

pub returns : goal.returns
returns c = search laws.asked_measure
