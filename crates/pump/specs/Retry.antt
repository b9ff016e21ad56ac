-- Tables with marks (02, order 1), as designs, with the report of each: the pump table over a link that loses prices, and a relay over two
-- such links. They show which formula is whose, where and for which sum value it is read, and what looks at marked steps only.
use Rattle.std.specs.Prelude.{true, false, List, [], ◌∷◌, ℕ}
use Rattle.terms.specs.Tree.{Value, Formula, num, par, sum_value, arith, choice, const, compare}
use Rattle.terms.specs.declared.Arith.TheVariants.{Sum, Difference}
use Rattle.terms.specs.declared.Compare.TheVariants.{Equal, Less}
use Rattle.criteria.specs.Design.{Design, Row}
use Rattle.pump.specs.Table.{is, row, param, design, busy, Case, case}

-- the design with a kind 8 line of these formulas
abbrev pub marked : List Formula → Design → Design
marked fs d = record { impl = d.impl; spec = d.spec; invariant = d.invariant; mapping = d.mapping; measure = d.measure; marks = fs ∷ [] }

-- the sum value is n
abbrev pub sum_is : ℕ → Formula
sum_is n = compare Equal sum_value (num n)

-- ---- the pump table over a link that loses prices

-- row 2, with its next values: a try, lost for sum value 0, delivered for 1
abbrev pub try : Value → Value → List Row
try v w = row 0 2 (is 1) (num 0) v w ∷ []

-- a next phase: a price that is lost is tried again
abbrev pub again : Value
again = arith Sum (num 1) sum_value

-- one by which a loss leads to phase 3
abbrev pub astray : Value
astray = choice (sum_is 1) (num 2) (num 3)

-- the table of examples/retry.txt without its last line, with the parts that a case changes: first size, row 2, condition of row 3,
-- invariant
abbrev pub lossy : ℕ → List Row → Formula → Formula → Design
lossy z row2 c i = design z 4 row2 c (par 1) i (par 1) busy

abbrev pub retry : Design
retry = lossy 3 (try again (par 1)) (is 2) (const true)

-- ---- a relay over two such links

-- a row without data, with its action, span, condition and next phase
abbrev pub hop : ℕ → ℕ → Formula → Value → Row
hop a s c v = record { action = a; span = s; condition = c; carries = num 0; next = v ∷ [] }

-- The sum value is the phase that a try leads to. Row 1 is the first link, from phase 0; row 3 the second, from phase 1, which may also
-- send back to phase 0. Between them stands the visible row, from phase 2.
abbrev pub relay : Design
relay = record {
  impl = record {
    parameters = param 3 0 ∷ [];
    rows = hop 0 2 (is 0) sum_value ∷ hop 1 1 (is 2) (num 0) ∷ hop 0 3 (is 1) sum_value ∷ [];
  };
  spec = record { parameters = param 1 0 ∷ []; rows = hop 1 1 (const true) (num 0) ∷ [] };
  invariant = const true;
  mapping = num 0 ∷ [];
  measure = arith Difference (num 2) (par 0);
  marks = [];
}

-- ---- the cases

unfoldable pub marked_cases : List Case
marked_cases =
    -- delivering is marked, losing is not
    case (marked (sum_is 1 ∷ []) retry) 0 0 0 0 0
    -- both are, and losing keeps the measure
    ∷ case (marked (const true ∷ []) retry) 1 5 4 2 0
    -- neither is: phase 1 is a focus point
    ∷ case (marked (const false ∷ []) retry) 1 7 4 2 0
    -- "Without the line all steps are marked."
    ∷ case retry 1 5 4 2 0
    -- in phase 2 a formula holds, but its row isn't enabled: a focus point, where the board can't show
    ∷ case (marked (sum_is 1 ∷ []) (lossy 3 (try again (par 1)) (const false) (const true))) 1 7 8 2 0
    -- "criteria 3 and 4 still concern every internal step": losing, not marked, leads out of the sizes
    ∷ case (marked (sum_is 1 ∷ []) (lossy 3 (try astray (par 1)) (is 2) (const true))) 1 3 4 2 0
    -- out of the invariant
    ∷ case (marked (sum_is 1 ∷ []) (lossy 4 (try astray (par 1)) (is 2) (compare Less (par 0) (num 3)))) 1 3 4 2 0
    -- to price 0, which is mapped otherwise
    ∷ case (marked (sum_is 1 ∷ []) (lossy 3 (try again (choice (sum_is 1) (par 1) (num 0))) (is 2) (const true))) 1 4 5 2 0
    -- the relay: the first formula is that of row 1, the second that of row 3. It begins with an internal step (02, order 6)
    ∷ case (marked (sum_is 1 ∷ sum_is 2 ∷ []) relay) 3 0 0 0 0
    -- swapped: row 1 has no sum value 2, and phase 0 is a focus point
    ∷ case (marked (sum_is 2 ∷ sum_is 1 ∷ []) relay) 1 7 0 1 0
    -- the second as the first: row 3 is marked where it stays in phase 1
    ∷ case (marked (sum_is 1 ∷ sum_is 1 ∷ []) relay) 1 5 1 3 1
    -- the phase is below the sum value: so it is where the step starts, not where it leads
    ∷ case (marked (compare Less (par 0) sum_value ∷ compare Less (par 0) sum_value ∷ []) relay) 3 0 0 0 0
    ∷ []
