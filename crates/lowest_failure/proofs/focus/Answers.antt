use Rattle.std.proofs.Common.{rules, ◌∙◌}
use Rattle.foundation.proofs.Ranges.{all_below}
use Rattle.lowest_failure.proofs.Tests as laws
use Rattle.lowest_failure.proofs.focus.Goals as goal

pub returns : goal.returns
returns c =
    all_below _ _ _ _ _ (λ x b q k. (search rules, search rules)) c.all.ensures.ran
    ∙ laws.focus_is c.args.lines.fields.now c.args.lines.starts.now c.args.shape c.args.v.now
