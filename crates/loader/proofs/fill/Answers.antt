use Prim.Native.Nat.{◌+◌, ◌*◌, ◌≤◌}
use native.Mathlib.Omega.{arith}
use lib.ListN.{length}
use Rattle.loader.proofs.Filling as filling
use Rattle.loader.proofs.fill.Goals as goal

pub loop-at-init : goal.loop-at-init
loop-at-init c = (omega arith, search filling.fill_start)

pub returns-then-lines-ge-MAX_LINES : goal.returns-then-lines-ge-MAX_LINES
returns-then-lines-ge-MAX_LINES c = search filling.too_many

pub overflow_cast-starts : goal.overflow_cast-starts
overflow_cast-starts c = let h : c.loop-at.to ≤ 4096 = search filling.to_fits in omega arith

pub copy_fields-n-requires : goal.copy_fields-n-requires
copy_fields-n-requires c = search filling.copy_fits

pub overflow_mul-at : goal.overflow_mul-at
overflow_mul-at c =
    let l = c in
    let h : l.loop-at.at + 6 * c.copy_fields-n.result + 1 ≤ length l.args.text.now = search filling.within in
    omega arith

pub overflow_add-at : goal.overflow_add-at
overflow_add-at c =
    let l = c in
    let h : l.loop-at.at + 6 * c.copy_fields-n.result + 1 ≤ length l.args.text.now = search filling.within in
    omega arith

pub overflow_add-at-in-loop-at : goal.overflow_add-at-in-loop-at
overflow_add-at-in-loop-at c =
    let l = c in
    let h : l.loop-at.at + 6 * c.copy_fields-n.result + 1 ≤ length l.args.text.now = search filling.within in
    omega arith

pub overflow_add-to : goal.overflow_add-to
overflow_add-to c =
    let l = c in
    let h : l.loop-at.to + c.copy_fields-n.result ≤ 4096 = search filling.to_next in
    omega arith

pub loop-at-smaller : goal.loop-at-smaller
loop-at-smaller c =
    let l = c in
    let h : l.loop-at.at + 6 * c.copy_fields-n.result + 1 ≤ length l.args.text.now = search filling.within in
    omega arith

pub loop-at-preserved : goal.loop-at-preserved
loop-at-preserved c = (search filling.within, search filling.fill_turn)

pub overflow_cast-starts-2 : goal.overflow_cast-starts-2
overflow_cast-starts-2 c = let h : c.loop-at.to ≤ 4096 = search filling.to_fits in omega arith

pub returns : goal.returns
returns c = search filling.fill_end
