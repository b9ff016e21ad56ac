use Prim.Native.Nat.{◌+◌, ◌≤◌}
use mathlib.Core.Path.{refl}
use native.Mathlib.Omega.{arith}
use lib.ListN.{length}
use Rattle.text_writer.specs.Length.{line_bytes}
use Rattle.text_writer.proofs.Length as length_laws
use Rattle.text_writer.proofs.Writing as laws
use Rattle.text_writer.proofs.put_lines.Goals as goal

pub loop-i-init : goal.loop-i-init
loop-i-init c = (refl, length_laws.bytes_begin _ _, search laws.lines_begin)

pub put_line-requires-clause-to_in_bounds : goal.put_line-requires-clause-to_in_bounds
put_line-requires-clause-to_in_bounds c = search length_laws.line_fits_lem

pub overflow_add-at : goal.overflow_add-at
overflow_add-at c =
    let p = c in
    let l = p.loop-i in
    let h : l.at + line_bytes p.line-from.result p.line-to.result ≤ length l.buffer = search length_laws.line_fits_lem in
    omega arith

pub loop-i-preserved : goal.loop-i-preserved
loop-i-preserved c = (omega arith, search length_laws.bytes_turn, search laws.lines_turn)

pub shape_of-buffer : goal.shape_of-buffer
shape_of-buffer c = omega arith

pub returns : goal.returns
returns c = search laws.lines_end
