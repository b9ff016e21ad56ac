-- Tables that divide (02, order 5), as designs, with the report of each: the pump table, and that over a link that loses prices, with a
-- remainder by zero in each place where a value may be missing. They show which terms are evaluated, where a value is asked for, and what is
-- reported before what.
use Rattle.std.specs.Prelude.{true, false, List, [], ◌∷◌, ◌++◌, ℕ}
use Rattle.terms.specs.Tree.{Value, Formula, num, par, arith, choice, const, compare, join}
use Rattle.terms.specs.declared.Arith.TheVariants.{Sum, Difference, Remainder}
use Rattle.terms.specs.declared.Compare.TheVariants.{Equal}
use Rattle.terms.specs.declared.Join.TheVariants.{And}
use Rattle.criteria.specs.Design.{Design}
use Rattle.pump.specs.Table.{is, row, design, done, busy, Case, case}
use Rattle.pump.specs.Retry.{marked, sum_is, try, astray, retry}

abbrev pub phase : Value
phase = par 0

abbrev pub price : Value
price = par 1

-- 0, but without a value where v is n: the remainder of 0 by v less n
abbrev pub gone : ℕ → Value → Value
gone n v = arith Remainder (num 0) (arith Difference v (num n))

-- the price, but without a value in phase n
abbrev pub price_but : ℕ → Value
price_but n = arith Sum price (gone n phase)

-- true, but without a value where v is n
abbrev pub true_but : ℕ → Value → Formula
true_but n v = compare Equal (gone n v) (num 0)

-- the pump table with another condition and other data of row 3, invariant, second mapped value and measure
abbrev pub pump : Formula → Value → Formula → Value → Value → Design
pump c x i m u = design 3 4 (done price) c x i m u

-- with one row more in the specification, of an action that the implementation hasn't: it is never enabled where its condition c has a value
abbrev pub with_row : Formula → Design → Design
with_row c d = record {
  impl = d.impl;
  spec = record { parameters = d.spec.parameters; rows = d.spec.rows ++ (row 3 1 (join And (const false) c) (num 0) (num 0) (num 0) ∷ []) };
  invariant = d.invariant;
  mapping = d.mapping;
  measure = d.measure;
  marks = d.marks;
}

unfoldable pub value_cases : List Case
value_cases =
    -- "the invariant has a value": where it has none in the initial state, criterion 1 fails
    case (pump (is 2) price (true_but 0 phase) price busy) 1 1 0 0 0
    -- and so it does where the mapping has none there
    ∷ case (pump (is 2) price (const true) (price_but 0) busy) 1 1 0 0 0
    -- but not for the measure, which is asked for in the state's turn
    ∷ case (pump (is 2) price (const true) price (arith Sum busy (gone 0 phase))) 1 10 0 0 0
    -- the invariant in a state to which a step leads: "a missing value elsewhere counts as not meeting" criterion 3, in the lower state
    ∷ case (pump (is 2) price (true_but 2 phase) price busy) 1 3 4 2 0
    -- the mapping there, after an internal step and after a visible one
    ∷ case (pump (is 2) price (const true) (price_but 2) busy) 1 4 4 2 0
    ∷ case (pump (is 2) price (const true) (price_but 1) busy) 1 9 0 1 0
    -- the measure there, after a marked step
    ∷ case (pump (is 2) price (const true) price (arith Sum busy (gone 2 phase))) 1 5 4 2 0
    -- and after one that is not marked, where it is no 5: state 12 itself lacks it
    ∷ case (marked (sum_is 1 ∷ []) (design 4 4 (try astray price) (is 2) price (const true) price (arith Sum busy (gone 3 phase)))) 1 10 12 0 0
    -- "all conditions": of row 3, in phase 0
    ∷ case (pump (compare Equal phase (arith Sum (num 2) (gone 0 phase))) price (const true) price busy) 1 10 0 0 0
    -- "`15` .. always both parts": though the first is false there
    ∷ case (pump (join And (is 2) (true_but 0 phase)) price (const true) price busy) 1 10 0 0 0
    -- "`6` evaluates only the branch it takes"
    ∷ case (pump (join And (is 2) (compare Equal (choice (is 0) (num 0) (gone 0 phase)) (num 0))) price (const true) price busy) 0 0 0 0 0
    -- "the data .. of enabled rows": of row 3, which is not enabled in phase 0, and is in phase 2
    ∷ case (pump (is 2) (price_but 0) (const true) price busy) 0 0 0 0 0
    ∷ case (pump (is 2) (price_but 2) (const true) price busy) 1 10 8 0 0
    -- "and next values": of row 2, for price 3
    ∷ case (design 3 4 (done (arith Sum price (gone 3 price))) (is 2) price (const true) price busy) 1 10 7 0 0
    -- "marks", of a row that isn't enabled too: in phase 0
    ∷ case (marked (join And (sum_is 1) (true_but 0 phase) ∷ []) retry) 1 10 0 0 0
    -- "the specification's at the mapped state included", where the implementation hasn't the action either
    ∷ case (with_row (true_but 2 price) (pump (is 2) price (const true) price busy)) 1 10 2 0 0
    -- "is tried before the rest": before a 2 in the same state
    ∷ case (with_row (true_but 3 price) (design 3 3 (done price) (is 2) price (const true) price busy)) 1 10 3 0 0
    -- and a 2 in a lower one before it
    ∷ case (with_row (true_but 3 price) (design 3 2 (done price) (is 2) price (const true) price busy)) 1 2 2 0 0
    ∷ []
