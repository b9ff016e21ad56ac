use Rattle.std.proofs.Common.{rules}
use Rattle.foundation.proofs.Ranges.{all_over}
use Rattle.action_check.proofs.agrees.Goals as goal

pub returns : goal.returns
returns c = all_over _ _ _ _ _ _ (λ x b q k. (search rules, search rules)) c.all.ensures.ran
