use Rattle.std.proofs.Common.{rules, refl}
use Rattle.foundation.proofs.Ranges.{first_over}
use Rattle.lowest_failure.specs.Search.{told_place, in_criteria}
use Rattle.lowest_failure.proofs.Here.in_criteria.Goals as goal

pub returns : goal.returns
unfolding in_criteria
returns c = first_over _ told_place refl (λ y. (y, refl)) _ _ _ _ (λ x b q k. (search rules, search rules)) c.find_map.ensures.runs
