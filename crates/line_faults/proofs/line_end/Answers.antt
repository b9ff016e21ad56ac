use mathlib.Core.Path.{refl}
use Rattle.line_faults.proofs.Turns as turns
use Rattle.line_faults.proofs.line_end.Goals as goal

pub loop-i-init : goal.loop-i-init
loop-i-init c = refl

pub returns-then-text-i-eq-LINE_END : goal.returns-then-text-i-eq-LINE_END
returns-then-text-i-eq-LINE_END c = search turns.end_here

pub loop-i-preserved : goal.loop-i-preserved
loop-i-preserved c = search turns.end_on

pub returns : goal.returns
returns c = search turns.end_most
