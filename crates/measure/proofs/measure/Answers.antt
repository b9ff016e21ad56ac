-- Room, criterion 3, and the search.
use Rattle.measure.proofs.Room as laws
use Rattle.measure.proofs.measure.Goals as goal

pub returns-then-not-has_room : goal.returns-then-not-has_room
returns-then-not-has_room c = search laws.measure_short

pub holds-requires-clause-fits : goal.holds-requires-clause-fits
holds-requires-clause-fits c = search laws.fits

pub holds-requires-clause-n_value : goal.holds-requires-clause-n_value
holds-requires-clause-n_value c = search laws.count_is

pub holds-requires-clause-n_bound : goal.holds-requires-clause-n_bound
holds-requires-clause-n_bound c = search laws.few_states

pub returns-then-not-holds : goal.returns-then-not-holds
returns-then-not-holds c = search laws.measure_leaves

pub fill-requires-clause-fits : goal.fill-requires-clause-fits
fill-requires-clause-fits c = search laws.fits

pub fill-requires-clause-n_bound : goal.fill-requires-clause-n_bound
fill-requires-clause-n_bound c = search laws.few_states

pub fill-requires-clause-n_in_bounds : goal.fill-requires-clause-n_in_bounds
fill-requires-clause-n_in_bounds c = search laws.enough

pub returns : goal.returns
returns c = search laws.measure_made
