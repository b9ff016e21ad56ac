-- `kinds::entry_at`: the match is the table's row of numbers.
use borrow.Author.Tests.{ne_eqb}
use Rattle.kinds.specs.Kinds.{entry_in}
use Rattle.kinds.proofs.entry_at.Goals as goal

pub returns-in-1 : goal.returns-in-1
unfolding entry_in
returns-in-1 c = rw c.in-1.is c.parameter.ensures

pub returns-in-2 : goal.returns-in-2
unfolding entry_in
returns-in-2 c = rw c.in-2.is c.parameter-in-2.ensures

pub returns-in-3 : goal.returns-in-3
unfolding entry_in
returns-in-3 c = rw c.in-3.is c.row.ensures

pub returns-in-4 : goal.returns-in-4
unfolding entry_in
returns-in-4 c = rw c.in-4.is c.row-in-4.ensures

pub returns-in-5 : goal.returns-in-5
unfolding entry_in
returns-in-5 c = rw c.in-5.is c.single.ensures

pub returns-in-6 : goal.returns-in-6
unfolding entry_in
returns-in-6 c = rw c.in-6.is c.single-in-6.ensures

pub returns-in-7 : goal.returns-in-7
unfolding entry_in
returns-in-7 c = rw c.in-7.is c.single-in-7.ensures

pub returns-in-8 : goal.returns-in-8
unfolding entry_in
returns-in-8 c = rw c.in-8.is c.single-in-8.ensures

pub returns-in_default : goal.returns-in_default
unfolding entry_in
returns-in_default c =
    let no = c.in_default.in_default-own.rest in
    rw (ne_eqb _ 8 no.1, ne_eqb _ 7 no.0.1, ne_eqb _ 6 no.0.0.1, ne_eqb _ 5 no.0.0.0.1, ne_eqb _ 4 no.0.0.0.0.1, ne_eqb _ 3 no.0.0.0.0.0.1, ne_eqb _ 2 no.0.0.0.0.0.0.1, ne_eqb _ 1 no.0.0.0.0.0.0.0.1) c.none.ensures
