-- How many states a check walked over m states examines: those of the walk, and none if the start fails.
use Prim.Native.Nat.{ℕ, min}
use mathlib.Core.Bool.{cond}
use Rattle.foundation.specs.Walk.{walk}
use Rattle.criteria.specs.Design.{Design, states}
use Rattle.decision.specs.Tests.{holds1}
use Rattle.decision.specs.Examine.{examine}

unfoldable pub examined : Design → ℕ → ℕ
examined d m = cond (holds1 d) (walk (examine d) (min m (states d)) 0).count 0
