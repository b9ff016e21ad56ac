use Rattle.std.proofs.Common.{rules, refl, ◌∙◌}
use Rattle.foundation.proofs.Ranges.{first_over}
use Rattle.lowest_failure.specs.Search.{told_place}
use Rattle.lowest_failure.proofs.Search as laws
use Rattle.lowest_failure.proofs.Here.in_rows.Goals as goal

pub returns : goal.returns
returns c =
    first_over _ told_place refl (λ y. (y, refl)) _ _ _ _ (λ x b q k. (search rules, search rules)) c.find_map.ensures.runs
    ∙ laws.rows _ _ _ _ _ (search rules)
