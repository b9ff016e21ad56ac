use native.Mathlib.Omega.{arith}
use Rattle.text_writer.proofs.Length as laws
use Rattle.text_writer.proofs.text_bytes.Goals as goal

pub loop-i-init : goal.loop-i-init
loop-i-init c = (omega arith, laws.bytes_begin _ _)

pub overflow_add-bytes : goal.overflow_add-bytes
overflow_add-bytes c = omega arith

pub loop-i-preserved : goal.loop-i-preserved
loop-i-preserved c = (omega arith, search laws.bytes_turn)

pub returns : goal.returns
returns c = search laws.bytes_end
