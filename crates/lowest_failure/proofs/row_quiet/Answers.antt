use Rattle.std.proofs.Common.{rules, ◌∙◌}
use Rattle.foundation.proofs.Ranges.{all_below}
use Rattle.lowest_failure.proofs.Tests as laws
use Rattle.lowest_failure.proofs.row_quiet.Goals as goal

pub returns : goal.returns
returns c =
    let f = c.args.lines.fields.now in
    let s = c.args.lines.starts.now in
    all_below (laws.quiet_at f s c.args.shape c.args.v.now c.args.k) _ _ _ _ (λ x b q k. (search rules, search (laws.quiet_says, rules))) c.all.ensures.ran
    ∙ laws.quiet_is f s c.args.shape c.args.v.now c.args.k _ (search rules)
