-- Only states that there are; a long walk by the plan of the arrays by turns.
use Rattle.std.proofs.Common.{rules}
use native.Mathlib.Omega.{arith}
use Rattle.walk.proofs.Turning as turns
use Rattle.walk.proofs.Walking as laws
use Rattle.walk.proofs.walk.Goals as goal

pub returns-then-most-from : goal.returns-then-most-from
returns-then-most-from c = search laws.none_past

pub returns-then-most-from-2 : goal.returns-then-most-from-2
returns-then-most-from-2 c = search laws.none_so_many

pub walk_on-requires-clause-fits : goal.walk_on-requires-clause-fits
walk_on-requires-clause-fits c = search laws.fits_of

pub walk_on-requires-clause-n_bound : goal.walk_on-requires-clause-n_bound
walk_on-requires-clause-n_bound c = omega arith

pub returns-then-n-lt-LONG : goal.returns-then-n-lt-LONG
returns-then-n-lt-LONG c = search laws.walked

pub walk_on-requires-then-state_count-gt-MAX_STATES-clause-fits : goal.walk_on-requires-then-state_count-gt-MAX_STATES-clause-fits
walk_on-requires-then-state_count-gt-MAX_STATES-clause-fits c = search laws.fits_of

pub walk_on-requires-then-state_count-gt-MAX_STATES-clause-n_bound : goal.walk_on-requires-then-state_count-gt-MAX_STATES-clause-n_bound
walk_on-requires-then-state_count-gt-MAX_STATES-clause-n_bound c = omega arith

pub returns-then-state_count-gt-MAX_STATES : goal.returns-then-state_count-gt-MAX_STATES
returns-then-state_count-gt-MAX_STATES c = search laws.walked

pub walk_on-requires-then-ne-clause-fits : goal.walk_on-requires-then-ne-clause-fits
walk_on-requires-then-ne-clause-fits c = search laws.fits_of

pub walk_on-requires-then-ne-clause-n_bound : goal.walk_on-requires-then-ne-clause-n_bound
walk_on-requires-then-ne-clause-n_bound c = omega arith

pub returns-then-ne : goal.returns-then-ne
returns-then-ne c = search laws.walked

pub long_walk-requires-clause-fits : goal.long_walk-requires-clause-fits
long_walk-requires-clause-fits c = search laws.fits_of

pub long_walk-requires-clause-plan_value : goal.long_walk-requires-clause-plan_value
long_walk-requires-clause-plan_value c = search rules

pub long_walk-requires-clause-shape_bound : goal.long_walk-requires-clause-shape_bound
long_walk-requires-clause-shape_bound c = search turns.long_few

pub long_walk-requires-clause-n_bound : goal.long_walk-requires-clause-n_bound
long_walk-requires-clause-n_bound c = search turns.long_within

pub returns : goal.returns
returns c = search laws.walked
