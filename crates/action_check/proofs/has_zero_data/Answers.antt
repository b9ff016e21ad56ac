-- `action_check::has_zero_data`: the data starts where the condition ends.
use Rattle.action_check.proofs.Laws as laws
use Rattle.action_check.proofs.has_zero_data.Goals as goal

pub returns : goal.returns
returns c = search laws.data_at
