use Rattle.std.proofs.Common.{rules, ◌∙◌}
use Rattle.foundation.proofs.Ranges.{all_below}
use Rattle.steps.proofs.Arrays as laws
use Rattle.steps.proofs.same.Goals as goal

pub returns : goal.returns
returns c = all_below _ _ _ _ _ (λ x b q k. (search rules, search rules)) c.all.ensures.ran ∙ laws.same_is _ _ _
