-- The proof of `join_holds`, by cases on the connective.
use Rattle.terms.proofs.join_holds.Goals as goal

pub returns-in-And : goal.returns-in-And
returns-in-And c = rw c.in-And.is

pub returns-in-Or : goal.returns-in-Or
returns-in-Or c = rw c.in-Or.is
