-- A walk by turns, of which each may go past several states: what is asked for it, what is known in it, and what a turn comes to.
use Rattle.std.specs.Prelude.{◌≡◌, List, ℕ, ◌≤◌, ◌<◌, length}
use Rattle.foundation.specs.First.{pass, fail}
use Rattle.criteria.specs.Design.{states}
use Rattle.criteria.specs.Failure.{Failure}
use Rattle.design.specs.Loaded.{design_at}
use Rattle.design.specs.declared.Shape.{Shape}
use Rattle.layout.specs.Sizes.{Fits}
use Rattle.row_plan.specs.RowPlan.{unsure_at}
use Rattle.plan.specs.Plan.{plan_in}
use Rattle.recall.specs.Recall.{SetsAre, Recalls}
use Rattle.walk.specs.Told.{told}
use Rattle.walk.specs.Examine.{examine_in}
use Rattle.walk.specs.declared.Turn.{Turn}

-- the plan is that of the arrays, which have no more states than a design may have, and nothing could lack a value
pub record Planned (f s : List ℕ) (h : Shape) (p : List ℕ) : Type 0 where
  pub few : states (design_at f s h) ≤ 65536
  pub planned : p ≡ plan_in f s h
  pub unsure : unsure_at p ≡ 0

-- and the sets are those of its design
pub record Ready (f s : List ℕ) (h : Shape) (p sets : List ℕ) : Type 0 where
  pub fits : Fits h
  pub plan : Planned f s h p
  pub sets_are : SetsAre (design_at f s h) sets

-- what is known from the last state on
pub record Knows (f s : List ℕ) (h : Shape) (watch t last : List ℕ) : Type 0 where
  pub long : length watch ≡ 97
  pub recalls : Recalls f s h watch t last

-- each state from the number on and before the next one passes; or the one with the number fails
pub record TurnIs (f s : List ℕ) (h : Shape) (p : List ℕ) (number : ℕ) (r : Turn) : Type 0 where
  pub onward : number < r.next
  pub passed : told r.outcome ≡ pass → (k : ℕ) → number ≤ k → k < r.next → examine_in f s h p k ≡ pass
  pub failed : (x : Failure) → told r.outcome ≡ fail x → examine_in f s h p number ≡ fail x
