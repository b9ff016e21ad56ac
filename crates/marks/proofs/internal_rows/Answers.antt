use Rattle.std.proofs.Common.{rules, tests, ◌∙◌}
use native.Mathlib.Omega.{arith}
use Rattle.std.proofs.lemmas.Iterator.{YieldsList-from_range}
use Rattle.std.proofs.lemmas.Iterator.Consumers.{YieldsList-from_filter, count_from_yields_List}
use Rattle.marks.proofs.Marks as laws
use Rattle.marks.proofs.internal_rows.Goals as goal

pub returns : goal.returns
returns c =
    let f = c.args.lines.fields.now in
    let s = c.args.lines.starts.now in
    let n = c.args.n in
    count_from_yields_List c.filter-internal.result _ c.count.ensures.ran
    (YieldsList-from_filter _ (laws.internal_at f s c.args.process) (YieldsList-from_range 0 n n (search rules) (omega arith)) c.filter-internal.ensures.closure (λ x b q k. search (rules, tests)))
    ∙ laws.internal_is f s c.args.process n
