use native.Mathlib.Omega.{arith}
use borrow.Author.Rules.{rules}
use Rattle.duty.proofs.Laws as laws
use Rattle.duty.proofs.same_fields.Goals as goal

pub loop-k-init : goal.loop-k-init
loop-k-init c = (omega arith, laws.fields_begin _ _ _ _ _)

pub loop-k-preserved : goal.loop-k-preserved
loop-k-preserved c = (search rules, search laws.field_turn)

pub returns-then-field_of : goal.returns-then-field_of
returns-then-field_of c = search laws.field_stop

pub returns : goal.returns
returns c = search laws.fields_end
