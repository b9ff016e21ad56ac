-- `line_faults::has_action` looks at kind and action.
use Rattle.line_faults.proofs.Laws as laws
use Rattle.line_faults.proofs.has_action.Goals as goal

pub returns : goal.returns
returns c = search laws.action_is
