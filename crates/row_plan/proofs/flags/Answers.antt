-- Each of the eight cases.
use Rattle.row_plan.proofs.Numbers as laws
use Rattle.row_plan.proofs.flags.Goals as goal

pub returns : goal.returns
returns c = search laws.flags_are
