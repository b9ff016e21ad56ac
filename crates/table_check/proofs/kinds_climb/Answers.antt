use native.Mathlib.Omega.{arith}
use borrow.Author.Rules.{rules}
use Rattle.table_check.proofs.Lines as lines
use Rattle.table_check.proofs.kinds_climb.Goals as goal

pub loop-i-init : goal.loop-i-init
loop-i-init c = (omega arith, rw (lines.all_lines _ _ _))

pub returns-then-entry-eq0 : goal.returns-then-entry-eq0
returns-then-entry-eq0 c = search lines.climb_unknown

pub returns-then-entry-lowest : goal.returns-then-entry-lowest
returns-then-entry-lowest c = search lines.climb_falls

pub loop-i-preserved : goal.loop-i-preserved
loop-i-preserved c = (search rules, search lines.climb_turn)

pub returns : goal.returns
returns c = search lines.climb_end
