-- By the risk; else the invariant, the mapping, and the measure where it is asked for.
use Rattle.step_passes.proofs.Steps as laws
use Rattle.step_passes.proofs.asked.Goals as goal

pub returns-then-safe_at : goal.returns-then-safe_at
returns-then-safe_at c = search laws.asked_safe

pub returns-then-not-formula_in_line : goal.returns-then-not-formula_in_line
returns-then-not-formula_in_line c = search laws.asked_invariant

pub returns-then-not-values_in_line : goal.returns-then-not-values_in_line
returns-then-not-values_in_line c = search laws.asked_mapping

pub returns-then-not-measured : goal.returns-then-not-measured
returns-then-not-measured c = search laws.asked_unmeasured

pub returns : goal.returns
returns c = search laws.asked_measured
