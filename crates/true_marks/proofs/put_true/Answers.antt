use Rattle.std.proofs.Common.{rules, ◌+◌, ◌-◌}
use native.Mathlib.Omega.{arith}
use Rattle.true_marks.proofs.Turns as laws
use Rattle.true_marks.proofs.put_true.Goals as goal

pub returns : goal.returns
returns c = laws.filled c.args.fields.now c.fill.new.self c.args.at c.args.n (c.args.at + c.args.n - c.args.at) _ (omega arith) (search rules) (c.fill.ensures.after (λ y h. search rules)) (search rules)
