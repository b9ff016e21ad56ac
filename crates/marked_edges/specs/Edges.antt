-- Marked steps by a number, as the search for longest runs goes over them: f the fields, s the starts of lines, h the shape, v an array that
-- holds a state of the implementation. Number 256 * i + e is that of row i + 1 and the sum value e. That these are the marked steps of the
-- design in the arrays is in proofs/Steps.
use Rattle.std.specs.Prelude.{◌≡◌, Bool, true, false, ◌&&◌, cond, List, ℕ, ◌+◌, ◌/◌, ◌%◌, ◌≤◌, ◌<◌, ltb, Option, MatchOption}
use Rattle.limits.specs.Limits.{max_span, max_states}
use Rattle.foundation.specs.Nth.{EachIs}
use Rattle.terms.specs.Tree.{eval_f}
use Rattle.criteria.specs.Design as design
use Rattle.criteria.specs.Step.{next_state}
use Rattle.criteria.specs.Rows.{row_at, marked_test}
use Rattle.design.specs.Loaded.{process_in, design_at}
use Rattle.design.specs.declared.Process.{Process}
use Rattle.design.specs.declared.Shape.{Shape}
use Rattle.steps.specs.Arrays.{padded, state_in, number_in, invariant_in}
use Rattle.marks.specs.Marks.{mark_holds}
use Rattle.plan.specs.Plan.{impl_plan}
use Rattle.row_looks.specs.Looks.{left}
use Rattle.row_looks.specs.declared.Row.{Row}
use Rattle.row_looks.specs.declared.Look.{Look}
use Rattle.marked_edges.specs.declared.Edge.{Edge}

-- how many there are, 32 rows of 256 sum values; and the number that no state has
abbrev pub edges : ℕ
edges = 8192

abbrev pub nowhere : ℕ
nowhere = max_states

-- the row of a step, and its sum value
abbrev pub edge_row : List ℕ → List ℕ → Shape → ℕ → design.Row
edge_row f s h k = row_at (design_at f s h).impl.rows (k / 256 + 1)

-- there is such a step at v, for a sum value that needs a look: one that needs none gives a step that another gives too
unfoldable pub edge_in : List ℕ → List ℕ → Shape → List ℕ → ℕ → Bool
edge_in f s h v k =
    ltb (k % 256) (impl_plan f s h (k / 256)).looks && marked_test (design_at f s h) v (k / 256 + 1) (edge_row f s h k) (k % 256)

-- the state that it leads to
unfoldable pub leads_in : List ℕ → List ℕ → Shape → List ℕ → ℕ → ℕ
leads_in f s h v k =
    cond (edge_in f s h v k) (number_in f s h.implementation (padded (next_state (edge_row f s h k) v (k % 256)))) nowhere

-- an internal row has a marked step for r's sum value, which needs a look and has a number, and for none from `from` up to it
pub record FoundMarked (f : List ℕ) (row : Row) (v : List ℕ) (from : ℕ) (r : Look) : Type 0 where
  pub internal : row.internal ≡ true
  pub after : from ≤ r.sum
  pub below : r.sum < row.looks
  pub small : r.sum < max_span
  pub none_before : (e : ℕ) → from ≤ e → e < r.sum → eval_f (left f row).tree v e && mark_holds f row.mark v e ≡ false
  pub holds : eval_f (left f row).tree v r.sum ≡ true
  pub marked : mark_holds f row.mark v r.sum ≡ true
  pub at : r.at ≡ row.at + (left f row).used

-- it has none for a sum value from `from` on that needs a look and has a number
pub record NoneMarked (f : List ℕ) (row : Row) (v : List ℕ) (from : ℕ) : Type 0 where
  pub none : row.internal ≡ true → (e : ℕ) → from ≤ e → e < row.looks → e < max_span → eval_f (left f row).tree v e && mark_holds f row.mark v e ≡ false

-- the first such sum value, if there is one
abbrev pub FirstMarked : List ℕ → Row → List ℕ → ℕ → Option Look → Type 0
FirstMarked f row v from r = MatchOption r (NoneMarked f row v from) (λ x. FoundMarked f row v from x)

-- `edge` is the first step from number k on that there is, and leads to `to`
pub record FirstFrom (leads : ℕ → ℕ) (k edge to : ℕ) : Type 0 where
  pub from : k ≤ edge
  pub one : edge < edges
  pub none_before : (j : ℕ) → k ≤ j → j < edge → leads j ≡ nowhere
  pub there : to ≡ leads edge

-- from number k on there is none
pub record NoneFrom (leads : ℕ → ℕ) (k : ℕ) : Type 0 where
  pub none : (j : ℕ) → k ≤ j → j < edges → leads j ≡ nowhere

-- the first from number k on, if there is one
abbrev pub FirstIn : (ℕ → ℕ) → ℕ → Option Edge → Type 0
FirstIn leads k r = MatchOption r (NoneFrom leads k) (λ x. FirstFrom leads k x.edge x.to)

-- the state that step number j leads to from state number k, where the invariant holds
unfoldable pub next_in : List ℕ → List ℕ → Shape → ℕ → ℕ → ℕ
next_in f s h k j = let v = state_in f s h.implementation k in cond (invariant_in f s h v) (leads_in f s h v j) nowhere

-- each sum value of each row has a number
abbrev pub SumsNumbered : List ℕ → List ℕ → Process → Type 0
SumsNumbered f s p = EachIs (process_in f s p).rows (λ (r : design.Row). r.span ≤ max_span)
