-- `line_check::values_fit`: each is checked where it starts.
use mathlib.Core.Path.{◌∙◌}
use borrow.Author.Rules.{rules}
use Rattle.line_check.proofs.Laws as laws
use Rattle.line_check.proofs.values_fit.Goals as goal

pub returns : goal.returns
returns c =
    c.each_fits.ensures (laws.next_value c.args.params c.args.row) (λ bytes r e. search rules) ∙ laws.values_each c.args.params c.args.row c.args.count c.args.part.now
