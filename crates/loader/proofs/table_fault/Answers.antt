-- `loader::table_fault` finds the lowest of the faults 4 to 7.
use Rattle.loader.proofs.Table as table
use Rattle.loader.proofs.table_fault.Goals as goal

pub returns-then-not-layout_fits : goal.returns-then-not-layout_fits
returns-then-not-layout_fits c = search table.fault_4

pub returns-then-not-numbers_fit : goal.returns-then-not-numbers_fit
returns-then-not-numbers_fit c = search table.fault_5

pub returns-then-state_count-gt-MAX_STATES : goal.returns-then-state_count-gt-MAX_STATES
returns-then-state_count-gt-MAX_STATES c = search table.fault_5_states

pub overflow_cast-counts : goal.overflow_cast-counts
overflow_cast-counts c = search table.fits_1

pub overflow_cast-counts-2 : goal.overflow_cast-counts-2
overflow_cast-counts-2 c = search table.fits_2

pub terms_fit-requires : goal.terms_fit-requires
terms_fit-requires c = search table.still_free

pub returns-then-not-terms_fit : goal.returns-then-not-terms_fit
returns-then-not-terms_fit c = search table.fault_6

pub returns-then-not-actions_fit : goal.returns-then-not-actions_fit
returns-then-not-actions_fit c = search table.fault_7

pub returns : goal.returns
returns c = search table.no_fault
