-- The examination of one state: criterion 10, then which rows and sum values are tried for which criterion, in 01's order, and what is found.
-- The walk over the states and the verdict are in specs/Verdict; a faster way to the same in specs/Quick.
use Rattle.std.specs.Prelude.{Bool, false, not, cond, List, [], ◌∷◌, ℕ, suc, length, get_or}
use Rattle.foundation.specs.First.{Outcome, pass, fail}
use Rattle.foundation.specs.Trial.{Place, Trial, first_of}
use Rattle.foundation.specs.Radix.{values_of}
use Rattle.criteria.specs.Design.{Design, Row, State, sizes}
use Rattle.criteria.specs.Failure.{Failure, failure_at, missing}
use Rattle.criteria.specs.Rows.{row_at}
use Rattle.decision.specs.Tests.{invariant_b, holds2, holds3, holds4, holds5, holds6, holds7, holds8, holds9, holds10}

-- what is tried for one criterion: nothing; a test at row 0 and sum value 0; a test at each row of a process, by its number, for each
-- sum value
pub data Column : Type 0 where
  nothing : Column
  once : Bool → Column
  ofImpl ofSpec : (ℕ → Row → ℕ → Bool) → Column

-- the criteria by their numbers, from 0
abbrev pub columns : Design → State → List Column
columns d s =
    nothing
    ∷ nothing
    ∷ once (holds2 d s)
    ∷ ofImpl (λ _. holds3 d s)
    ∷ ofImpl (λ _. holds4 d s)
    ∷ ofImpl (holds5 d s)
    ∷ ofImpl (λ _. holds6 d s)
    ∷ ofSpec (λ _. holds7 d s)
    ∷ ofImpl (λ _. holds8 d s)
    ∷ ofImpl (λ _. holds9 d s)
    ∷ []

abbrev pub column : List Column → ℕ → Column
column cs c = get_or cs c nothing

-- the numbers of its rows are below this (rows count from 1, and row 0 has no sum value)
abbrev pub rows_in : Design → Column → ℕ
rows_in d nothing = 0
rows_in d (once holds) = 1
rows_in d (ofImpl holds) = suc (length d.impl.rows)
rows_in d (ofSpec holds) = suc (length d.spec.rows)

-- and the sum values of row k below this
abbrev pub sums_in : Design → Column → ℕ → ℕ
sums_in d nothing k = 0
sums_in d (once holds) k = 1
sums_in d (ofImpl holds) k = (row_at d.impl.rows k).span
sums_in d (ofSpec holds) k = (row_at d.spec.rows k).span

-- it fails there
abbrev pub fails_in : Design → Column → ℕ → ℕ → Bool
fails_in d nothing k e = false
fails_in d (once holds) k e = not holds
fails_in d (ofImpl holds) k e = not (holds k (row_at d.impl.rows k) e)
fails_in d (ofSpec holds) k e = not (holds k (row_at d.spec.rows k) e)

abbrev pub trial_of : Design → List Column → Trial
trial_of d cs = record {
  criteria = length cs;
  rows = λ c. rows_in d (column cs c);
  sums = λ c k. sums_in d (column cs c) k;
  test = λ c k e. fails_in d (column cs c) k e;
}

abbrev pub trial : Design → State → Trial
trial d s = trial_of d (columns d s)

-- the lowest place that fails at a state
abbrev pub first_failing : Design → State → Outcome Place
first_failing d s = first_of (trial d s)

-- with the number of the state
abbrev pub named : ℕ → Outcome Place → Outcome Failure
named n pass = pass
named n (fail x) = fail (failure_at n x)

-- the state that has number n
abbrev pub state_at : Design → ℕ → State
state_at d n = values_of (sizes d.impl) n

-- state number n is tried for criterion 10, and for the rest where the invariant holds
unfoldable pub examine : Design → ℕ → Outcome Failure
examine d n =
    let s : State = state_at d n in
    let o = named n (first_failing d s) in
    cond (holds10 d s) (cond (invariant_b d s) o pass) (fail (failure_at n missing))
