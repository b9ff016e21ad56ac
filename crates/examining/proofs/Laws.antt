-- What the functions return is what specs/Examined says.
use Prim.Native.Nat.{ℕ, ◌+◌, ◌^◌, ◌≤◌, ◌<◌}
use mathlib.Core.Path.{◌≡◌}
use mathlib.Core.Logic.{◌≢◌}
use mathlib.Core.Bool.{Bool, true, false}
use mathlib.Core.List.{List}
use native.Mathlib.Omega.{arith}
use borrow.Author.Tests.{eq-eqb, ne_eqb}
use lib.Dec.{leb}
use mir.Syntax.{w64}
use mir.Val.{Fits}
use Rattle.verdicts.specs.declared.Failure.{Failure}
use Rattle.verdicts.specs.declared.Walked.{Walked}
use Rattle.design.specs.declared.Counts.{Counts}
use Rattle.layout.specs.Sizes.{state_count_in}
use Rattle.start.specs.Start.{start_in, start_failure_in, acceptance_in}
use Rattle.walk.specs.Walk.{walked_under}
use Rattle.walk.proofs.Told.{count_within}
use Rattle.answers.specs.declared.Phase.{Phase}
use Rattle.answers.specs.declared.Phase.TheVariants as phase
use Rattle.phases.specs.Phases.{phase_after}
use Rattle.examining.specs.declared.Examined.{Examined}
use Rattle.examining.specs.Examined.{ahead, walked_to, examined_next, failed_start, examined_from}

module _ (f s : List ℕ) (c : Counts) (p : List ℕ) (next n : ℕ) where
  -- ---- the next states are examined

  module _ (total k : ℕ) (et : total ≡ state_count_in f s c) (ek : k ≡ ahead n next total) where
    -- wherever the walk starts
    pub next_fits : (w : Walked) (from : ℕ) → w ≡ walked_under f s c p k from → next < 2 ^ 64 → total < 2 ^ 64 → Fits w64 (next + w.count)
    unfolding ahead
    next_fits w from tw a b = let most : w.count ≤ k = rw tw (count_within f s c p k from) in record { fits = omega arith }

    pub examined : (w : Walked) → w ≡ walked_under f s c p k next
        → (q : Phase) → q ≡ phase_after w.outcome (leb total (next + w.count)) (acceptance_in f s c)
        → record { phase = q; next = next + w.count; count = w.count } ≡ examined_next f s c p next n
    unfolding examined_next walked_to
    examined w tw q eq = rw (eq, ← et, ← ek, ← tw)

  -- ---- the start is tried in the first advance

  pub on_from_later : next ≢ 0 → (r : Examined) → r ≡ examined_next f s c p next n → r ≡ examined_from f s c p next n
  unfolding examined_from
  on_from_later h r e = rw (ne_eqb next 0 h) e

  module _ (first : next ≡ 0) (b : Bool) (eb : b ≡ start_in f s c) where
    pub on_from_start : b ≡ true → (r : Examined) → r ≡ examined_next f s c p next n → r ≡ examined_from f s c p next n
    unfolding examined_from
    on_from_start h r e = rw (eq-eqb next 0 first, ← eb, h) e

    pub start_fails_lem : b ≡ false → (x : Failure) → x ≡ start_failure_in f s c → record { phase = phase.Failed x; next = 0; count = 0 } ≡ examined_from f s c p next n
    unfolding examined_from failed_start
    start_fails_lem h x ex = rw (ex, eq-eqb next 0 first, ← eb, h)
