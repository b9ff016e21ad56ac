-- Runs, and why the values of states all of whose steps are settled are the lengths of longest runs: along a run the value falls at least by
-- its length, and from a state there is a run as long as its value, by the step that the value comes from.
use mathlib.Core.Path.{◌≡◌, refl}
use Prim.Native.Nat.{ℕ, zero, suc, ◌+◌, ◌<◌, ◌≤◌}
use native.Mathlib.Omega.{arith}
use Rattle.marked_edges.specs.Edges.{edges}
use Rattle.longest_runs.specs.Runs.{Step, Run, stay, more, LongestIs}
use Rattle.longest_runs.specs.Search.{Attained, nothing, by_step, SettledTo}

module _ (next : ℕ → ℕ → ℕ) (n : ℕ) where
  -- a run of l steps from s
  pub record RunOf (s l : ℕ) : Type 0 where
    pub end : ℕ
    pub run : Run next n s end l

  -- one step at the end
  pub run_then : {s t u l : ℕ} → Run next n s t l → Step next n t u → Run next n s u (suc l)
  run_then stay x = more x stay
  run_then (more y r) x = more y (run_then r x)

  -- places of which each leads to the one after it: a run from one to a later one
  pub run_along : (p : ℕ → ℕ) (d : ℕ) → ((i : ℕ) → i + 1 < d + 1 → Step next n (p i) (p (i + 1))) → (k i : ℕ) → i + k ≡ d
      → Run next n (p i) (p d) k
  run_along p d linked zero i e = let f : i ≡ d = omega arith in rw f stay
  run_along p d linked (suc k) i e = more (linked i (omega arith)) (run_along p d linked k (i + 1) (omega arith))

  module _ (m v : ℕ → ℕ) (all : (s : ℕ) → s < n → SettledTo next n m v s edges (v s)) where
    step_falls : (s t : ℕ) → Step next n s t → v t < v s
    step_falls s t x = rw (← x.leads) ((all s x.here).upper x.edge x.one (rw x.leads x.there))

    run_falls : {s t l : ℕ} → Run next n s t l → v t + l ≤ v s
    run_falls stay = omega arith
    run_falls (more {s = s} {t = t} x r) =
        let h = run_falls r in
        let g = step_falls s t x in
        omega arith

    run_of : (l s : ℕ) → s < n → v s ≡ l → RunOf s l
    run_of zero s h e = record { end = s; run = stay }
    run_of (suc l) s h e = go (all s h).attained (λ t i q. run_of l t i q)
      where
        go : Attained next n v s edges (v s) → ((t : ℕ) → t < n → v t ≡ l → RunOf t l) → RunOf s (suc l)
        go (nothing z) rest = absurd (omega arith)
        go (by_step j a i q) rest =
            let r = rest (next s j) i (omega arith) in
            record { end = r.end; run = more (record { edge = j; one = a; here = h; there = i; leads = refl }) r.run }

    pub longest_of : (s : ℕ) → s < n → v s < n → LongestIs next n s (v s)
    longest_of s h few =
        let r = run_of (v s) s h refl in
        record { end = r.end; run = r.run; none_longer = λ t l x. let q = run_falls x in omega arith; few = few }
