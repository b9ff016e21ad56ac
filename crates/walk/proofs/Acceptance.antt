-- What a check by the walk comes to: where the counts fit and there are no more states than a design may have, the walk by the plan of the
-- arrays is the walk over the states of their design.
use mathlib.Core.Path.{◌≡◌, ◌∙◌}
use mathlib.Core.Bool.{true}
use mathlib.Core.List.{List}
use Prim.Native.Nat.{ℕ, ◌+◌, ◌≤◌, min}
use native.Mathlib.Omega.{arith}
use borrow.Author.Tests.{le-leb}
use Rattle.foundation.specs.Walk.{walk}
use Rattle.criteria.specs.Design.{Design, states}
use Rattle.decision.specs.Examine.{examine}
use Rattle.design.specs.Loaded.{design_in}
use Rattle.design.specs.declared.Counts.{Counts}
use Rattle.layout.specs.Sizes.{counts_fit}
use Rattle.walk.specs.Walk.{walk_in, plan_of, walk_by}
use Rattle.walk.proofs.Walking.{by_plan}

module _ (f s : List ℕ) (c : Counts) (fits : counts_fit c ≡ true) where
  abbrev d : Design
  d = design_in f s c

  module _ (few : states d ≤ 65536) where
    pub states_walked : (n from : ℕ) → from + n ≤ states d → walk_by f s c (plan_of f s c) n from ≡ walk (examine d) n from
    unfolding walk_in
    states_walked n from l = by_plan f s c n from ∙ rw (fits, le-leb (from + n) (min (states d) 65536) (omega arith))
