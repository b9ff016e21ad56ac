use Rattle.defined.proofs.Laws as laws
use Rattle.defined.proofs.have.Goals as goal

pub loop-i-init : goal.loop-i-init
loop-i-init c = search laws.have_begin

pub returns-then-is_err : goal.returns-then-is_err
returns-then-is_err c = search laws.have_fail

pub loop-i-preserved : goal.loop-i-preserved
loop-i-preserved c = search laws.have_turn

pub returns : goal.returns
returns c = search laws.have_end
