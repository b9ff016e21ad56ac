-- The proof of `value_mark`: the match is the definition's row of tests.
use Rattle.std.proofs.Common.{ne_eqb}
use Rattle.terms.specs.Mark.{value_mark}
use Rattle.terms.proofs.value_mark.Goals as goal

pub returns-in-0 : goal.returns-in-0
unfolding value_mark
returns-in-0 c = rw c.in-0.is

pub returns-in-1 : goal.returns-in-1
unfolding value_mark
returns-in-1 c = rw c.in-1.is

pub returns-in-2 : goal.returns-in-2
unfolding value_mark
returns-in-2 c = rw c.in-2.is

pub returns-in-3 : goal.returns-in-3
unfolding value_mark
returns-in-3 c = rw c.in-3.is

pub returns-in-4 : goal.returns-in-4
unfolding value_mark
returns-in-4 c = rw c.in-4.is

pub returns-in-5 : goal.returns-in-5
unfolding value_mark
returns-in-5 c = rw c.in-5.is

pub returns-in-6 : goal.returns-in-6
unfolding value_mark
returns-in-6 c = rw c.in-6.is

pub returns-in_default : goal.returns-in_default
unfolding value_mark
returns-in_default c =
    simp (ne_eqb _ 6 c.in_default.in_default-own.rest.1, ne_eqb _ 5 c.in_default.in_default-own.rest.0.1, ne_eqb _ 4 c.in_default.in_default-own.rest.0.0.1, ne_eqb _ 3 c.in_default.in_default-own.rest.0.0.0.1, ne_eqb _ 2 c.in_default.in_default-own.rest.0.0.0.0.1, ne_eqb _ 1 c.in_default.in_default-own.rest.0.0.0.0.0.1, ne_eqb _ 0 c.in_default.in_default-own.rest.0.0.0.0.0.0.1)
