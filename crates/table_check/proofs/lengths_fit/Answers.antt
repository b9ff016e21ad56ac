use Rattle.std.proofs.Common.{rules, ◌∙◌}
use Rattle.foundation.proofs.Ranges.{all_below}
use Rattle.table_check.proofs.Lines as lines
use Rattle.table_check.proofs.lengths_fit.Goals as goal

pub returns : goal.returns
returns c = all_below _ _ _ _ _ (λ x b q k. (search rules, search rules)) c.all.ensures.ran ∙ lines.each_number _ _ _ _ _
