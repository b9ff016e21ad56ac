-- Outside the invariant no step leads to a state; inside the steps are those at the state's values.
use Rattle.longest_runs.proofs.Looks as laws
use Rattle.longest_runs.proofs.look.Goals as goal

pub returns-then-not-invariant : goal.returns-then-not-invariant
returns-then-not-invariant c = search laws.look_outside

pub look_at-requires-clause-by_index : goal.look_at-requires-clause-by_index
look_at-requires-clause-by_index c = search laws.look_inside_lem
