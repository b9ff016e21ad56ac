use Rattle.std.proofs.Common.{rules, tests, ◌≡◌}
use Rattle.std.proofs.lemmas.Iterator.{first_from_Range}
use Rattle.steps.proofs.Arrays as laws
use Rattle.steps.proofs.row_with.Goals as goal

pub returns : goal.returns
returns c =
    let action = laws.action_in c.args.lines.fields.now c.args.lines.starts.now c.args.process c.args.action in
    laws.with_is _ _ _ _ _ _
    (first_from_Range _ _ _ _ (λ k. action k ≡ c.args.action) (λ k. action k ≡ c.args.action → ⊥) c.find.ensures.ran (λ x q k. search (rules, tests)) (λ x q k. (search rules, search (rules, tests))))
    (search rules)
