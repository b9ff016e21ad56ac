use Prim.Native.Nat.{◌+◌, ◌*◌, ◌≤◌}
use native.Mathlib.Omega.{arith}
use lib.ListN.{length}
use Rattle.loader.specs.Load.{line_test}
use Rattle.loader.proofs.Filling as filling
use Rattle.loader.proofs.terms_fit.Goals as goal

pub loop-at-init : goal.loop-at-init
loop-at-init c = (omega arith, search filling.ask_start)

pub overflow_mul-end : goal.overflow_mul-end
overflow_mul-end c =
    let l = c in
    let n = c.count-count.result in
    let h : l.loop-at.at + 6 * n + 1 ≤ length l.args.text.now = search (filling.ask_within (line_test l.args.n l.args.m l.args.i)) in
    omega arith

pub overflow_add-end : goal.overflow_add-end
overflow_add-end c =
    let l = c in
    let n = c.count-count.result in
    let h : l.loop-at.at + 6 * n + 1 ≤ length l.args.text.now = search (filling.ask_within (line_test l.args.n l.args.m l.args.i)) in
    omega arith

pub slice_bounds-line_terms_fit-end : goal.slice_bounds-line_terms_fit-end
slice_bounds-line_terms_fit-end c =
    let l = c in
    let n = c.count-count.result in
    let h : l.loop-at.at + 6 * n + 1 ≤ length l.args.text.now = search (filling.ask_within (line_test l.args.n l.args.m l.args.i)) in
    omega arith

pub overflow_add-at : goal.overflow_add-at
overflow_add-at c =
    let l = c in
    let n = c.count-count.result in
    let h : l.loop-at.at + 6 * n + 1 ≤ length l.args.text.now = search (filling.ask_within (line_test l.args.n l.args.m l.args.i)) in
    omega arith

pub loop-at-smaller : goal.loop-at-smaller
loop-at-smaller c =
    let l = c in
    let n = c.count-count.result in
    let h : l.loop-at.at + 6 * n + 1 ≤ length l.args.text.now = search (filling.ask_within (line_test l.args.n l.args.m l.args.i)) in
    omega arith

pub loop-at-preserved : goal.loop-at-preserved
loop-at-preserved c =
    let l = c in
    (search (filling.ask_within (line_test l.args.n l.args.m l.args.i)), search filling.ask_turn)

pub returns-else-line_terms_fit : goal.returns-else-line_terms_fit
returns-else-line_terms_fit c = search filling.ask_stop

pub returns : goal.returns
returns c = search filling.ask_end
