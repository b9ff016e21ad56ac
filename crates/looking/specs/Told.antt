-- What C is told of a design where it is looked at: of a state of the implementation, and of a criterion there. What it is told of a term is in
-- told_terms/specs/Terms, of a row in told_rows/specs/Rows.
use Rattle.std.specs.Prelude.{ℕ, cond, List, ◌∷◌, eqb}
use Rattle.reader.specs.Text.{fields_by_line}
use Rattle.layout.specs.Lines.{no_lines}
use Rattle.loader.specs.Load.{fault_of, held_by}
use Rattle.loader.specs.declared.Loaded.{Loaded}
use Rattle.criteria.specs.Design.{Design, State}
use Rattle.lowest_failure.specs.Search.{criterion_for}
use Rattle.told_terms.specs.Terms.{value_told, formula_told, values_told}

-- ---- a text: its lines in the arrays, and how many there are of each kind; zeros where it is turned down

unfoldable pub arrays_of : List ℕ → Loaded
arrays_of text =
    cond (eqb (fault_of text) 0) (held_by (fields_by_line text))
    (record { lines = no_lines; counts = record { kind1 = 0; kind2 = 0; kind3 = 0; kind4 = 0; kind8 = 0 } })

-- ---- a state: the invariant, the measure, the mapped values

unfoldable pub state_told : Design → State → List ℕ
state_told d s = formula_told d.invariant s 0 ∷ value_told d.measure s 0 ∷ values_told d.mapping s 0

-- ---- criterion n, 2 to 9, for row k and the sum value e

unfoldable pub criterion_told : Design → State → ℕ → ℕ → ℕ → ℕ
criterion_told d s n k e = cond (criterion_for d s n k e) 1 0
