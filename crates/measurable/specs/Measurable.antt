-- Whether a measure can be made: yes, criterion 3 holds, and criterion 10, the measure apart; no, one of them fails somewhere. And the same of
-- a state, of its rows and of a row, by the tests of the crate decision. v is an array that holds a state.
use Rattle.std.specs.Prelude.{◌≡◌, Bool, true, false, List, ℕ, ◌<◌}
use Rattle.criteria.specs.Design.{Design, Row, State}
use Rattle.criteria.specs.Step.{next_state}
use Rattle.criteria.specs.Measure.{Measurable, Unmeasurable}
use Rattle.decision.specs.Tests.{enabled_b, inside_b, apart_b}
use Rattle.design.specs.Loaded.{design_at}
use Rattle.design.specs.declared.Shape.{Shape}
use Rattle.steps.specs.Arrays.{invariant_in}
use Rattle.row_looks.specs.Looks.{row_of}

-- where the row is enabled for e it leads inside; it is, and leads elsewhere
abbrev pub LeadsInside : Design → State → Row → ℕ → Type 0
LeadsInside d v r e = enabled_b r v e ≡ true → inside_b d (next_state r v e) ≡ true

pub record LeadsOut (d : Design) (v : State) (r : Row) (e : ℕ) : Type 0 where
  pub in_span : e < r.span
  pub on : enabled_b r v e ≡ true
  pub out : inside_b d (next_state r v e) ≡ false

-- of a row
pub data RowStays (d : Design) (v : State) (r : Row) : Bool → Type 0 where
  stays : ((e : ℕ) → e < r.span → LeadsInside d v r e) → RowStays d v r true
  leaves : (e : ℕ) → LeadsOut d v r e → RowStays d v r false

-- of all rows
pub data RowsStay (f s : List ℕ) (h : Shape) (v : State) : Bool → Type 0 where
  stay : ((i e : ℕ) → i < h.implementation.rows.count → e < (row_of f s h i).span → LeadsInside (design_at f s h) v (row_of f s h i) e) → RowsStay f s h v true
  one_leaves : (i e : ℕ) → i < h.implementation.rows.count → LeadsOut (design_at f s h) v (row_of f s h i) e → RowsStay f s h v false

-- at a state: a value is missing; none is, and the rows are looked at if the invariant holds
pub data StateStays (f s : List ℕ) (h : Shape) (v : State) : Bool → Type 0 where
  lacks : apart_b (design_at f s h) v ≡ false → StateStays f s h v false
  outside : apart_b (design_at f s h) v ≡ true → invariant_in f s h v ≡ false → StateStays f s h v true
  inside : {b : Bool} → apart_b (design_at f s h) v ≡ true → invariant_in f s h v ≡ true → RowsStay f s h v b → StateStays f s h v b

-- in all states
pub data CanMeasure (d : Design) : Bool → Type 0 where
  can : Measurable d → CanMeasure d true
  cannot : Unmeasurable d → CanMeasure d false
