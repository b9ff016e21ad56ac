use native.Mathlib.Omega.{arith}
use borrow.Author.Rules.{rules}
use Rattle.duty.proofs.Laws as laws
use Rattle.duty.proofs.same_lines.Goals as goal

pub loop-k-init : goal.loop-k-init
loop-k-init c = (omega arith, laws.lines_begin _ _ _ _ _ _ _)

pub loop-k-preserved : goal.loop-k-preserved
loop-k-preserved c = (search rules, search laws.line_turn)

pub returns-then-not-same_nth : goal.returns-then-not-same_nth
returns-then-not-same_nth c = search laws.line_stop

pub returns : goal.returns
returns c = search laws.lines_end
