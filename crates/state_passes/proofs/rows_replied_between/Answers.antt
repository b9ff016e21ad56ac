use native.Mathlib.Omega.{arith}
use Rattle.state_passes.proofs.Seeing as laws
use Rattle.state_passes.proofs.rows_replied_between.Goals as goal

pub loop-i-init : goal.loop-i-init
loop-i-init c = search laws.spec_begin

pub row_replied-requires : goal.row_replied-requires
row_replied-requires c = omega arith

pub returns-then-not-row_replied : goal.returns-then-not-row_replied
returns-then-not-row_replied c = search laws.spec_fail

pub loop-i-preserved : goal.loop-i-preserved
loop-i-preserved c = search laws.spec_turn

pub returns : goal.returns
returns c = search laws.spec_end
