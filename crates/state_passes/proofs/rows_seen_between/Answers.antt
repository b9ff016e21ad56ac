use native.Mathlib.Omega.{arith}
use Rattle.std.proofs.Common.{rules}
use Rattle.state_passes.proofs.Seeing as laws
use Rattle.state_passes.proofs.rows_seen_between.Goals as goal

pub loop-i-init : goal.loop-i-init
loop-i-init c = search laws.impl_begin

pub row_seen-requires : goal.row_seen-requires
row_seen-requires c = omega arith

pub returns-in_err-quiet : goal.returns-in_err-quiet
returns-in_err-quiet c = search (rules, laws.impl_fail, c.in_err-quiet.was)

pub loop-i-preserved : goal.loop-i-preserved
loop-i-preserved c = search (laws.impl_turn, c.in_ok-quiet.was)

pub returns : goal.returns
returns c = search laws.impl_end
