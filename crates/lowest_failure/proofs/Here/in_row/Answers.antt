use Rattle.std.proofs.Common.{rules, tests, ◌≡◌, true, false}
use Rattle.std.proofs.lemmas.Iterator.{first_from_Range}
use Rattle.design.specs.Loaded.{design_at}
use Rattle.lowest_failure.specs.Search.{holds_for}
use Rattle.lowest_failure.proofs.Search as laws
use Rattle.lowest_failure.proofs.Here.in_row.Goals as goal

pub returns : goal.returns
returns c =
    let holds = holds_for (design_at c.args.self.now.lines.fields.now c.args.self.now.lines.starts.now c.args.self.now.shape) c.args.self.now.state c.args.n c.args.k in
    laws.sums _ _ _ _ _ _ _ (search rules)
    (first_from_Range _ _ _ _ (λ e. holds e ≡ false) (λ e. holds e ≡ true) c.find.ensures.ran (λ x q k. search (rules, tests)) (λ x q k. (search rules, search (rules, tests))))
    (search rules)
