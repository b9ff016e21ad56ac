-- The proof of `field`: inside the slice it is the element, and past the end 0.
use Rattle.std.proofs.Common.{sym}
use lib.ListN.{get_or-eq_default}
use Rattle.terms.proofs.field.Goals as goal

pub returns-else-at-fields : goal.returns-else-at-fields
returns-else-at-fields c = sym (get_or-eq_default c.args.fields.now 0 c.if-at-fields.false)
