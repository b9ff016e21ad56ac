use native.Mathlib.Omega.{arith}
use Rattle.recall.proofs.Setting as laws
use Rattle.recall.proofs.put_rows.Goals as goal

pub loop-i-init : goal.loop-i-init
loop-i-init c = (omega arith, search laws.sets_begin)

pub watched-requires-clause-k_nonzero : goal.watched-requires-clause-k_nonzero
watched-requires-clause-k_nonzero c = omega arith

pub watched-requires-clause-k_le_count : goal.watched-requires-clause-k_le_count
watched-requires-clause-k_le_count c = omega arith

pub loop-i-preserved : goal.loop-i-preserved
loop-i-preserved c = (omega arith, search laws.row_stored)

pub returns : goal.returns
returns c = search laws.rows_done
