-- By turns if nothing could lack a value.
use Rattle.walk.proofs.Turning as laws
use Rattle.walk.proofs.long_walk.Goals as goal

pub walk_on-requires-clause-n_bound : goal.walk_on-requires-clause-n_bound
walk_on-requires-clause-n_bound c = search laws.walk_fits

pub walk_by_turns-requires-clause-planned : goal.walk_by_turns-requires-clause-planned
walk_by_turns-requires-clause-planned c = search laws.long_planned
