-- The proof of `formula_mark`: the match is the definition's row of tests.
use Rattle.std.proofs.Common.{ne_eqb}
use Rattle.terms.specs.Mark.{formula_mark}
use Rattle.terms.proofs.formula_mark.Goals as goal

pub returns-in-10 : goal.returns-in-10
unfolding formula_mark
returns-in-10 c = rw c.in-10.is

pub returns-in-11 : goal.returns-in-11
unfolding formula_mark
returns-in-11 c = rw c.in-11.is

pub returns-in-12 : goal.returns-in-12
unfolding formula_mark
returns-in-12 c = rw c.in-12.is

pub returns-in-13 : goal.returns-in-13
unfolding formula_mark
returns-in-13 c = rw c.in-13.is

pub returns-in-14 : goal.returns-in-14
unfolding formula_mark
returns-in-14 c = rw c.in-14.is

pub returns-in-15 : goal.returns-in-15
unfolding formula_mark
returns-in-15 c = rw c.in-15.is

pub returns-in-16 : goal.returns-in-16
unfolding formula_mark
returns-in-16 c = rw c.in-16.is

pub returns-in_default : goal.returns-in_default
unfolding formula_mark
returns-in_default c =
    simp (ne_eqb _ 16 c.in_default.in_default-own.rest.1, ne_eqb _ 15 c.in_default.in_default-own.rest.0.1, ne_eqb _ 14 c.in_default.in_default-own.rest.0.0.1, ne_eqb _ 13 c.in_default.in_default-own.rest.0.0.0.1, ne_eqb _ 12 c.in_default.in_default-own.rest.0.0.0.0.1, ne_eqb _ 11 c.in_default.in_default-own.rest.0.0.0.0.0.1, ne_eqb _ 10 c.in_default.in_default-own.rest.0.0.0.0.0.0.1)
