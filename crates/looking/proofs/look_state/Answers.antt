-- Invariant, measure and mapped values of the design.
use Rattle.looking.proofs.Laws as laws
use Rattle.looking.proofs.look_state.Goals as goal

pub returns : goal.returns
returns c = search laws.state_told_lem
