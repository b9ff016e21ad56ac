-- The flags are small.
use borrow.Author.Rules.{rules}
use Rattle.row_plan.specs.RowPlan.{pack_of}
use Rattle.row_plan.proofs.pack.Goals as goal

pub returns : goal.returns
unfolding pack_of
returns c = search rules
