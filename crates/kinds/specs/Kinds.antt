-- The table of kinds (01, "Design text"; 02, order 1): for each kind of line its rank in the order of kinds, how many lines of it there
-- are, how many fields stand before its terms, what these say, and what terms follow, of whose parameters. The faults of a line
-- (design/specs/Faults) are stated by it; what the fields of a line mean is in design/specs/Line.
use Rattle.std.specs.Prelude.{ℕ, zero, suc, max, Bool, true, false, cond, List, [], ◌∷◌, eqb}
use Rattle.limits.specs.Limits.{max_parameters, max_rows}
use Rattle.kinds.specs.declared.Entry.{Entry}
use Rattle.kinds.specs.declared.Role.{Role}
use Rattle.kinds.specs.declared.Role.TheVariants.{Parameter, Row, Other}
use Rattle.kinds.specs.declared.Follow.{Follow}
use Rattle.kinds.specs.declared.Follow.TheVariants.{Nothing, RowTerms, Formula, Mapped, Value, Marks}
use Rattle.kinds.specs.declared.Side.{Side}
use Rattle.kinds.specs.declared.Side.TheVariants.{Implementation, Specification}

-- what a kind of line is: rank, fewest and most lines, fields before the terms, what these say, what terms follow, and whose parameters
-- they read
abbrev pub entry : ℕ → ℕ → ℕ → ℕ → Role → Follow → Side → Entry
entry r l u n role terms p = record { rank = r; fewest = l; most = u; fixed = n; role = role; terms = terms; side = p }

-- a kind's number, and what it is, for each kind that a call takes
abbrev pub Table : Type 0
Table = List (ℕ × Entry)

-- The kinds of a whole text, in 01's order; a call that takes other kinds has a table of its own. So kind 3 has rank 3 and "0 to 32" lines,
-- and after kind, action and span stand a row's terms, over the implementation's parameters.
abbrev pub whole_text : Table
whole_text =
    (1, entry 1 1 max_parameters 3 Parameter Nothing Implementation)
    ∷ (2, entry 2 1 max_parameters 3 Parameter Nothing Specification)
    ∷ (3, entry 3 0 max_rows 3 Row RowTerms Implementation)
    ∷ (4, entry 4 0 max_rows 3 Row RowTerms Specification)
    ∷ (5, entry 5 1 1 1 Other Formula Implementation)
    ∷ (6, entry 6 1 1 1 Other Mapped Implementation)
    ∷ (7, entry 7 1 1 1 Other Value Implementation)
    ∷ (8, entry 8 0 1 1 Other Marks Implementation)
    ∷ []

-- its highest number (`last_in whole_text`), and how many ranks it has, from 0 on: 0 is that of no kind
abbrev pub last_kind : ℕ
last_kind = 8

abbrev pub ranks : ℕ
ranks = 9

-- what is no kind: there are no lines of it
abbrev pub no_entry : Entry
no_entry = entry 0 0 0 0 Other Nothing Implementation

-- the entry of a number
unfoldable pub entry_in : Table → ℕ → Entry
entry_in [] k = no_entry
entry_in (e ∷ table) k = cond (eqb k e.0) e.1 (entry_in table k)

-- the highest number of a table
unfoldable pub last_in : Table → ℕ
last_in [] = 0
last_in (e ∷ table) = max e.0 (last_in table)

-- ---- the terms

-- what a term is asked to be
pub data Sort : Type 0 where
  value formula : Sort

-- n values
abbrev pub n_values : ℕ → List Sort
n_values zero = []
n_values (suc n) = value ∷ n_values n

-- n formulas
abbrev pub n_formulas : ℕ → List Sort
n_formulas zero = []
n_formulas (suc n) = formula ∷ n_formulas n

-- whether there are any
abbrev pub has_terms : Follow → Bool
has_terms Nothing = false
has_terms RowTerms = true
has_terms Formula = true
has_terms Mapped = true
has_terms Value = true
has_terms Marks = true

-- which they are, where the process has n parameters, m lines are of kind 2 and i rows of the implementation are internal: "condition,
-- data, one next value for each" parameter of the row's process; "a formula"; "one value for each kind 2 line"; "a value"; "a formula
-- for each internal row"
abbrev pub sorts_of : Follow → ℕ → ℕ → ℕ → List Sort
sorts_of Nothing n m i = []
sorts_of RowTerms n m i = formula ∷ value ∷ n_values n
sorts_of Formula n m i = formula ∷ []
sorts_of Mapped n m i = n_values m
sorts_of Value n m i = value ∷ []
sorts_of Marks n m i = n_formulas i

-- "`2` the sum value, only in rows"; a row's mark is "over its parameters and sum value"
abbrev pub reads_sum : Follow → Bool
reads_sum Nothing = false
reads_sum RowTerms = true
reads_sum Formula = false
reads_sum Mapped = false
reads_sum Value = false
reads_sum Marks = true

-- "of the row's process (the implementation's in kinds 5 to 7)", and in kind 8, where n lines are of kind 1 and m of kind 2
abbrev pub own_of : Side → ℕ → ℕ → ℕ
own_of Implementation n m = n
own_of Specification n m = m
