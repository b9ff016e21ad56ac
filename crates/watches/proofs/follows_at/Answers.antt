-- By whether the value stays the same.
use Rattle.watches.proofs.Laws as laws
use Rattle.watches.proofs.follows_at.Goals as goal

pub returns-then-is_parameter : goal.returns-then-is_parameter
returns-then-is_parameter c = search laws.follows_same

pub returns : goal.returns
returns c = search laws.follows_other
