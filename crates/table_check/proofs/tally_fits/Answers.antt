use Rattle.std.proofs.Common.{rules}
use Rattle.foundation.proofs.Ranges.{all_below}
use Rattle.kinds.specs.Kinds.{last_in}
use Rattle.table_check.proofs.tally_fits.Goals as goal

pub returns : goal.returns
unfolding last_in
returns c = all_below _ _ _ _ _ (λ x b q k. (search rules, search rules)) c.all.ensures.ran
