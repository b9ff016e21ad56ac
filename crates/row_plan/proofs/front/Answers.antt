-- One of the row's four numbers.
use borrow.Author.Rules.{rules}
use Rattle.row_plan.specs.RowPlan.{row_plan_at}
use Rattle.row_plan.proofs.front.Goals as goal

pub returns : goal.returns
unfolding row_plan_at
returns c = search rules
