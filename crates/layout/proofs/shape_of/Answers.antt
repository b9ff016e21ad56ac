-- As the counts say, where they fit.
use Prim.Native.Nat.{◌+◌, ◌≤◌}
use native.Mathlib.Omega.{arith}
use Rattle.layout.proofs.Sizes as laws
use Rattle.layout.proofs.shape_of.Goals as goal

pub returns-then-not-counts_fit : goal.returns-then-not-counts_fit
returns-then-not-counts_fit c = search laws.shape_unfit

pub overflow_cast-counts : goal.overflow_cast-counts
overflow_cast-counts c =
    let n = c.args.counts in let h : n.kind1 + n.kind2 + n.kind3 + n.kind4 ≤ 80 = search laws.four_fit in omega arith

pub overflow_cast-counts-2 : goal.overflow_cast-counts-2
overflow_cast-counts-2 c =
    let n = c.args.counts in let h : n.kind1 + n.kind2 + n.kind3 + n.kind4 ≤ 80 = search laws.four_fit in omega arith

pub overflow_cast-counts-3 : goal.overflow_cast-counts-3
overflow_cast-counts-3 c =
    let n = c.args.counts in let h : n.kind1 + n.kind2 + n.kind3 + n.kind4 ≤ 80 = search laws.four_fit in omega arith

pub overflow_cast-counts-4 : goal.overflow_cast-counts-4
overflow_cast-counts-4 c =
    let n = c.args.counts in let h : n.kind1 + n.kind2 + n.kind3 + n.kind4 ≤ 80 = search laws.four_fit in omega arith

pub overflow_cast-counts-5 : goal.overflow_cast-counts-5
overflow_cast-counts-5 c = let n = c.args.counts in let h : n.kind8 ≤ 1 = search laws.marks_fit in omega arith

pub sections-requires-2 : goal.sections-requires-2
sections-requires-2 c = search laws.four_fit

pub returns : goal.returns
returns c = search laws.shape_fit
