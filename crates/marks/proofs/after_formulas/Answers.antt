use Rattle.marks.proofs.Marks as laws
use Rattle.marks.proofs.after_formulas.Goals as goal

pub loop-i-init : goal.loop-i-init
loop-i-init c = search laws.formulas_begin

pub loop-i-preserved : goal.loop-i-preserved
loop-i-preserved c = search laws.formulas_turn

pub returns : goal.returns
returns c = search laws.formulas_end
