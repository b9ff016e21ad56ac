-- Tables that may begin with an internal step (02, order 6), as designs, with the report of each: the pump table with one more internal row,
-- enabled for the second of its two sum values, which leads back to where it starts. They show that verdict 3 is given where that row is
-- enabled in the initial state, though its step isn't marked and the state is a focus point, and that a failure comes before it. A marked
-- first step is the relay's (specs/Retry).
use Rattle.std.specs.Prelude.{true, false, List, [], ◌∷◌, ◌++◌}
use Rattle.terms.specs.Tree.{Formula, num, par, const, join}
use Rattle.terms.specs.declared.Join.TheVariants.{And}
use Rattle.criteria.specs.Design.{Design}
use Rattle.pump.specs.Table.{is, row, given, wrong_data, Case, case}
use Rattle.pump.specs.Retry.{marked, sum_is}

-- with row 4: internal, where the formula holds, for sum value 1
abbrev pub idling : Formula → Design → Design
idling c d = record {
  impl = record { parameters = d.impl.parameters; rows = d.impl.rows ++ (row 0 2 (join And c (sum_is 1)) (num 0) (par 0) (par 1) ∷ []) };
  spec = d.spec;
  invariant = d.invariant;
  mapping = d.mapping;
  measure = d.measure;
  marks = [];
}

-- the step of row 2 is marked; that of row 4 as the formula says
abbrev pub marked_as : Formula → Design → Design
marked_as f = marked (const true ∷ f ∷ [])

unfoldable pub first_cases : List Case
first_cases =
    -- not marked: the initial state is a focus point, and verdict 3 is given
    case (marked_as (const false) (idling (is 0) given)) 3 0 0 0 0
    -- enabled in phase 1 alone, so not in the initial state
    ∷ case (marked_as (const false) (idling (is 1) given)) 0 0 0 0 0
    -- never enabled
    ∷ case (marked_as (const false) (idling (const false) given)) 0 0 0 0 0
    -- marked, it keeps the measure: a failed table
    ∷ case (marked_as (const true) (idling (is 0) given)) 1 5 0 4 1
    -- and so is one with other data
    ∷ case (marked_as (const false) (idling (is 0) wrong_data)) 1 8 9 3 0
    ∷ []
