-- The arrays as they were loaded.
use Rattle.looking.proofs.Laws as laws
use Rattle.looking.proofs.hold_design.Goals as goal

pub returns-in-Ok-clause-value : goal.returns-in-Ok-clause-value
returns-in-Ok-clause-value c = search laws.no_fault

pub returns-in-Ok-clause-fields_after : goal.returns-in-Ok-clause-fields_after
returns-in-Ok-clause-fields_after c = search laws.fields_held_lem

pub returns-in-Ok-clause-starts_after : goal.returns-in-Ok-clause-starts_after
returns-in-Ok-clause-starts_after c = search laws.starts_held_lem

pub returns-in-Ok-clause-counts_after : goal.returns-in-Ok-clause-counts_after
returns-in-Ok-clause-counts_after c = search laws.counts_held

pub returns-in-Err-clause-value : goal.returns-in-Err-clause-value
returns-in-Err-clause-value c = search laws.fault_told

pub returns-in-Err-clause-fields_after : goal.returns-in-Err-clause-fields_after
returns-in-Err-clause-fields_after c = search laws.fields_zero

pub returns-in-Err-clause-starts_after : goal.returns-in-Err-clause-starts_after
returns-in-Err-clause-starts_after c = search laws.starts_zero

pub returns-in-Err-clause-counts_after : goal.returns-in-Err-clause-counts_after
returns-in-Err-clause-counts_after c = search laws.counts_zero
