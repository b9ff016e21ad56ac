-- A product of 32 and 16 bits and 16 bits more fit 64.
use borrow.Author.Rules.{rules}
use native.Mathlib.Omega.{arith}
use native.Mathlib.Nat.{mul-le-mul}
use Prim.Native.Nat.{◌≤◌}
use Rattle.layout.proofs.onward.Goals as goal

pub overflow_mul-w : goal.overflow_mul-w
overflow_mul-w c =
    let h : c.args.v ≤ 4294967295 = search rules in let k : c.args.z ≤ 65535 = search rules in omega (arith, mul-le-mul h k)

pub overflow_add-w : goal.overflow_add-w
overflow_add-w c =
    let h : c.args.v ≤ 4294967295 = search rules in let k : c.args.z ≤ 65535 = search rules in omega (arith, mul-le-mul h k)
