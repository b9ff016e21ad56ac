use Rattle.std.proofs.Common.{rules}
use Rattle.foundation.proofs.Ranges.{all_below}
use Rattle.defined.specs.Defined.{row_has_in}
use Rattle.defined.proofs.row_below.Goals as goal

pub returns : goal.returns
unfolding row_has_in
returns c = all_below _ _ _ _ _ (λ x b q k. (search rules, search rules)) c.all.ensures.ran
