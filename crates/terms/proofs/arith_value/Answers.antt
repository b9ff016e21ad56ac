-- The proof of `arith_value`: the library's wrapping sum and difference are those modulo 65,536.
use Rattle.std.proofs.Common.{arith, eq-eqb, ne_eqb}
use Rattle.terms.proofs.arith_value.Goals as goal

pub returns-in-Sum : goal.returns-in-Sum
returns-in-Sum c = rw c.in-Sum.is c.wrapping_add_u16.ensures.value

pub returns-in-Difference : goal.returns-in-Difference
returns-in-Difference c = rw c.in-Difference.is (omega arith)

pub returns-then-y-eq0 : goal.returns-then-y-eq0
returns-then-y-eq0 c = rw (c.in-Remainder.is, eq-eqb _ 0 c.if-y-eq0.true)

pub returns-else-y-eq0 : goal.returns-else-y-eq0
returns-else-y-eq0 c = rw (c.in-Remainder.is, ne_eqb _ 0 c.if-y-eq0.false)
