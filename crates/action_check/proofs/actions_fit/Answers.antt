-- `action_check::actions_fit`: the rows in their lines are those of the design that the arrays hold.
use Rattle.action_check.proofs.Laws as laws
use Rattle.action_check.proofs.actions_fit.Goals as goal

pub returns-then-not-counts_fit : goal.returns-then-not-counts_fit
returns-then-not-counts_fit c = search laws.too_many

pub returns : goal.returns
returns c = search laws.as_rows
