-- What the code computes of a state from a desk's arrays: f the fields, s the starts of lines, p a process and h the shape, which say
-- where the lines stand. A state is an array of eight values. Nothing here is said of the criteria: that these are the state, the
-- steps and the tests of the design in the arrays is in proofs/States.
use Rattle.std.specs.Prelude.{Bool, false, ◌&&◌, cond, List, [], ◌∷◌, ℕ, zero, suc, ◌+◌, ◌-◌, min, eqb, get_or, drop, replicate}
use Rattle.std.proofs.lemmas.List.Edits.{sets}
use Rattle.foundation.specs.Radix.{below_b, same_b, number_of, split_of}
use Rattle.criteria.specs.Design.{Row, values, sizes, initial_state, mapped, measure_at}
use Rattle.criteria.specs.Step.{next_state, data_number}
use Rattle.criteria.specs.Rows.{no_row, row_at}
use Rattle.decision.specs.Tests as tests
use Rattle.decision.specs.Tests.{enabled_b, invariant_b}
use Rattle.design.specs.Line.{row_of, values_in}
use Rattle.design.specs.Loaded.{process_in, design_at}
use Rattle.design.specs.declared.Process.{Process}
use Rattle.design.specs.declared.Shape.{Shape}
use Rattle.layout.specs.Sizes.{parameters_from, sizes_of}
use Rattle.steps.specs.declared.Step.{Step}

-- eight values: those given, and 0 after them
unfoldable pub padded : List ℕ → List ℕ
padded vs = sets (replicate 8 0) 0 vs

-- n of the values from the i-th on
unfoldable pub first_values : ℕ → ℕ → List ℕ → List ℕ
first_values zero i v = []
first_values (suc n) i v = get_or v i 0 ∷ first_values n (suc i) v

-- the values of n terms from a place on
unfoldable pub values_at : List ℕ → ℕ → ℕ → List ℕ → ℕ → List ℕ
values_at f at n v e = values (values_in n (drop at f)) v e

-- what a row does
unfoldable pub step_of : Row → List ℕ → ℕ → Step
step_of r v e = record { action = r.action; enabled = enabled_b r v e; carries = data_number r v e; next = padded (next_state r v e) }

abbrev pub no_step_there : Step
no_step_there = record { action = 0; enabled = false; carries = 0; next = replicate 8 0 }

-- ---- a process: where the line of row k starts, what the row does, its span, and the number of the row of an action

unfoldable pub line_of : List ℕ → Process → ℕ → ℕ
line_of s p k = get_or s (p.rows.first + k - 1) 0

-- row k by its line, and where 0 stands for no row
unfoldable pub row_by : List ℕ → List ℕ → Process → ℕ → Row
row_by f s p k = row_of p.parameters.count (drop (line_of s p k) f)

unfoldable pub partner_by : List ℕ → List ℕ → Process → ℕ → Row
partner_by f s p k = cond (eqb k 0) no_row (row_by f s p k)

unfoldable pub row_step : List ℕ → List ℕ → Process → ℕ → List ℕ → ℕ → Step
row_step f s p k v e = step_of (row_at (process_in f s p).rows k) v e

unfoldable pub row_span : List ℕ → List ℕ → Process → ℕ → ℕ
row_span f s p k = (row_at (process_in f s p).rows k).span

unfoldable pub row_with : List ℕ → List ℕ → Process → ℕ → ℕ
row_with f s p a = tests.row_number (process_in f s p) a

-- the values of the state with a number, of eight parameters at most; that state; the initial state
unfoldable pub state_values : List ℕ → List ℕ → Process → ℕ → List ℕ
state_values f s p k = (split_of (sizes_of (parameters_from f s (min p.parameters.count 8) p.parameters.first)) k).values

unfoldable pub state_in : List ℕ → List ℕ → Process → ℕ → List ℕ
state_in f s p k = padded (state_values f s p k)

unfoldable pub initial_in : List ℕ → List ℕ → Process → List ℕ
initial_in f s p = padded (initial_state (process_in f s p))

-- the number of a state, 65,536 standing for all that are larger
unfoldable pub number_in : List ℕ → List ℕ → Process → List ℕ → ℕ
number_in f s p v = min (number_of (sizes (process_in f s p)) (first_values p.parameters.count 0 v)) 65536

-- the values are below the sizes; the first n are the same
unfoldable pub below_in : List ℕ → List ℕ → Process → List ℕ → Bool
below_in f s p v = below_b (sizes (process_in f s p)) (first_values p.parameters.count 0 v)

unfoldable pub same_in : ℕ → List ℕ → List ℕ → Bool
same_in n v w = same_b (first_values n 0 v) (first_values n 0 w)

-- ---- the design: the invariant holds; it does inside the sizes; the mapped state; the measure

unfoldable pub invariant_in : List ℕ → List ℕ → Shape → List ℕ → Bool
invariant_in f s h v = invariant_b (design_at f s h) v

unfoldable pub inside_in : List ℕ → List ℕ → Shape → List ℕ → Bool
inside_in f s h v = below_in f s h.implementation v && invariant_in f s h v

unfoldable pub mapped_in : List ℕ → List ℕ → Shape → List ℕ → List ℕ
mapped_in f s h v = padded (mapped (design_at f s h) v)

unfoldable pub measure_in : List ℕ → List ℕ → Shape → List ℕ → ℕ
measure_in f s h v = measure_at (design_at f s h) v
