use mathlib.Core.Path.{refl}
use native.Mathlib.Omega.{arith}
use lib.ListN.{length-set}
use Rattle.text_writer.proofs.Writing as laws
use Rattle.text_writer.proofs.put_line.Goals as goal

pub loop-k-init : goal.loop-k-init
loop-k-init c = (omega arith, refl, search laws.line_begin)

pub overflow_add-from : goal.overflow_add-from
overflow_add-from c = omega arith

pub overflow_mul-k : goal.overflow_mul-k
overflow_mul-k c = omega arith

pub overflow_add-at : goal.overflow_add-at
overflow_add-at c = omega arith

pub loop-k-preserved : goal.loop-k-preserved
loop-k-preserved c = (omega arith, omega arith, search laws.line_turn)

pub overflow_mul-buffer : goal.overflow_mul-buffer
overflow_mul-buffer c = omega arith

pub overflow_add-buffer : goal.overflow_add-buffer
overflow_add-buffer c = omega arith

pub bounds-buffer-at : goal.bounds-buffer-at
bounds-buffer-at c = omega arith

pub shape_of-buffer : goal.shape_of-buffer
shape_of-buffer c = simp length-set (omega arith)

pub returns : goal.returns
returns c = search laws.line_end
