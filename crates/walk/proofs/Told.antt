-- What was told is said again as it was, so the answer of a walk is what was found; and a walk examines no more states than it may.
use Prim.Native.Nat.{ℕ, ◌≤◌}
use mathlib.Core.Path.{◌≡◌, refl, sym, ap, ◌∙◌}
use mathlib.Core.Bool.{Bool, true, false, cond}
use mathlib.Core.List.{List}
use native.Mathlib.Omega.{arith}
use Rattle.foundation.specs.Walk.{Walked}
use Rattle.foundation.proofs.Walk.{count_most}
use Rattle.criteria.specs.Failure.{Failure}
use Rattle.design.specs.declared.Counts.{Counts}
use Rattle.walk.specs.Told.{told, told_walked, no_walk, said, said_walked}
use Rattle.layout.specs.Sizes.{shape_of}
use Rattle.walk.specs.Examine.{examine_in, walk_on}
use Rattle.walk.specs.Walk.{states_there, walk_by, walked_under}
use Rattle.verdicts.specs.declared.Outcome.{Outcome as Answer}
use Rattle.verdicts.specs.declared.Outcome.TheVariants.{Pass, Fail}
use Rattle.verdicts.specs.declared.Walked.{Walked as WalkAnswer}

said_back : (o : Answer) → said (told o) ≡ o
said_back Pass = refl
said_back (Fail x) = refl

said_told : (r : WalkAnswer) (w : Walked Failure) → told_walked r ≡ w → r ≡ said_walked w
said_told r w e = (λ i. record { outcome = sym (said_back r.outcome) i; count = r.count }) ∙ ap said_walked e

pub walked_so : (f s : List ℕ) (c : Counts) (p : List ℕ) (n from : ℕ) (r : WalkAnswer) → told_walked r ≡ walk_by f s c p n from → r ≡ walked_under f s c p n from
unfolding walked_under
walked_so f s c p n from r e = said_told r (walk_by f s c p n from) e

pub count_within : (f s : List ℕ) (c : Counts) (p : List ℕ) (n from : ℕ) → (walked_under f s c p n from).count ≤ n
unfolding walked_under walk_by walk_on
count_within f s c p n from = go (states_there f s c n from)
  where
    go : (b : Bool) → (cond b (walk_on f s (shape_of c) p n from) no_walk).count ≤ n
    go true = count_most (λ k. examine_in f s (shape_of c) p k) n from
    go false = omega arith
