use Prim.Native.Nat.{◌+◌}
use native.Mathlib.Omega.{arith}
use Rattle.measure.proofs.Room as laws
use Rattle.measure.proofs.spans_fit.Goals as goal

pub loop-i-init : goal.loop-i-init
loop-i-init c = search laws.spans_start

pub returns-then-row_span-gt-MAX_SPAN : goal.returns-then-row_span-gt-MAX_SPAN
returns-then-row_span-gt-MAX_SPAN c = search laws.spans_fail

pub loop-i-preserved : goal.loop-i-preserved
loop-i-preserved c = search laws.spans_turn

pub returns : goal.returns
returns c = laws.spans_end _ _ _ (c.loop-i.i + 1) (omega arith) c.loop-i.invariant
