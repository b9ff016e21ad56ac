-- A row at a state, and what is so of it: f the fields, s the starts of lines, h the shape, v an array that holds the state; the row stands
-- after i others, so its number is i + 1.
use Rattle.std.specs.Prelude.{◌≡◌, true, false, not, ◌&&◌, ◌||◌, cond, List, ℕ, ◌+◌, ◌≤◌, ◌<◌, ltb, drop, Option, MatchOption}
use Rattle.terms.specs.Tree.{Formula, eval_f}
use Rattle.terms.specs.Read.{Read, read_v, read_f}
use Rattle.criteria.specs.Design as design
use Rattle.criteria.specs.Step.{next_state}
use Rattle.criteria.specs.Rows.{row_at}
use Rattle.decision.specs.Tests.{enabled_b, internal_b, marked_b}
use Rattle.design.specs.Loaded.{design_at}
use Rattle.design.specs.declared.Shape.{Shape}
use Rattle.steps.specs.Arrays.{padded, values_at}
use Rattle.marks.specs.Marks.{mark_holds}
use Rattle.conjuncts.specs.declared.Guarded.{Guarded}
use Rattle.row_plan.specs.declared.RowPlan.{RowPlan}
use Rattle.plan.specs.Plan.{impl_plan}
use Rattle.row_looks.specs.declared.Row.{Row}
use Rattle.row_looks.specs.declared.Look.{Look}

-- what is left of its condition
abbrev pub left : List ℕ → Row → Read Formula
left f row = read_f row.depth (drop row.at f)

-- where a row leads whose data stand at a place
abbrev pub next_from : List ℕ → Shape → ℕ → List ℕ → ℕ → List ℕ
next_from f h at v e = padded (values_at f (at + (read_v 32 (drop at f)).used) h.implementation.parameters.count v e)

-- how many sum values need a look: none where the conjuncts in front of the condition do not hold, or the rest, if that doesn't read the sum
-- value and several looks are planned
abbrev pub looks_needed : List ℕ → Guarded → RowPlan → List ℕ → ℕ
looks_needed f front planned v =
    cond (front.holds && (not (planned.free && ltb 1 planned.looks) || eval_f (read_f front.depth (drop front.at f)).tree v 0)) planned.looks 0

-- the row of the design in the arrays
abbrev pub row_of : List ℕ → List ℕ → Shape → ℕ → design.Row
row_of f s h i = row_at (design_at f s h).impl.rows (i + 1)

pub record IsAt (f s : List ℕ) (h : Shape) (i : ℕ) (v : List ℕ) (row : Row) : Type 0 where
  pub internal : row.internal ≡ internal_b (row_of f s h i)
  -- for a sum value that needs a look, what is left of the condition says whether the row is enabled; for other planned ones it is not
  pub most : row.looks ≤ (impl_plan f s h i).looks
  pub on : (e : ℕ) → e < row.looks → eval_f (left f row).tree v e ≡ enabled_b (row_of f s h i) v e
  pub off : (e : ℕ) → row.looks ≤ e → e < (impl_plan f s h i).looks → enabled_b (row_of f s h i) v e ≡ false
  -- its data stand behind that, and it leads to its next state
  pub next : (e : ℕ) → 0 < row.looks → next_from f h (row.at + (left f row).used) v e ≡ padded (next_state (row_of f s h i) v e)
  -- and an internal row's mark is where it is said to be
  pub marked : (e : ℕ) → internal_b (row_of f s h i) ≡ true → mark_holds f row.mark v e ≡ marked_b (design_at f s h) (i + 1) v e

-- what is left of the row's condition holds for r's sum value, which needs a look, and for none from `from` up to it
pub record FoundOn (f : List ℕ) (row : Row) (v : List ℕ) (from : ℕ) (r : Look) : Type 0 where
  pub after : from ≤ r.sum
  pub below : r.sum < row.looks
  pub none_before : (e : ℕ) → from ≤ e → e < r.sum → eval_f (left f row).tree v e ≡ false
  pub holds : eval_f (left f row).tree v r.sum ≡ true
  pub at : r.at ≡ row.at + (left f row).used

-- it holds for no sum value from `from` on that needs a look
pub record NoneOn (f : List ℕ) (row : Row) (v : List ℕ) (from : ℕ) : Type 0 where
  pub none : (e : ℕ) → from ≤ e → e < row.looks → eval_f (left f row).tree v e ≡ false

-- the first such sum value, if there is one
abbrev pub FirstOn : List ℕ → Row → List ℕ → ℕ → Option Look → Type 0
FirstOn f row v from r = MatchOption r (NoneOn f row v from) (λ x. FoundOn f row v from x)
