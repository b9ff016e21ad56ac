-- The arrays are new and the slice is cleared.
use Rattle.longest_runs.proofs.Turns as laws
use Rattle.longest_runs.proofs.fill.Goals as goal

pub search-requires : goal.search-requires
search-requires c = search laws.fresh

pub returns : goal.returns
returns c = search laws.filled_from
