-- Behind the risks.
use borrow.Author.Rules.{rules}
use Rattle.row_plan.specs.RowPlan.{unsure_at}
use Rattle.row_plan.proofs.unsure.Goals as goal

pub returns : goal.returns
unfolding unsure_at
returns c = search rules
