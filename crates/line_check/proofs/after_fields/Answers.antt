use Rattle.line_check.proofs.Laws as laws
use Rattle.line_check.proofs.after_fields.Goals as goal

pub returns-then-is_none : goal.returns-then-is_none
returns-then-is_none c = search laws.after_none

pub loop-i-preserved : goal.loop-i-preserved
loop-i-preserved c = search laws.after_turn

pub returns : goal.returns
returns c = search laws.after_end
