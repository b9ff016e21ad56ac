-- The steps of one state settled one after the other.
use mathlib.Core.Path.{◌≡◌, refl, sym, ◌∙◌, ap}
use Prim.Native.Nat.{ℕ, ◌+◌, ◌<◌, ◌≤◌, max}
use native.Mathlib.Omega.{arith}
use native.Mathlib.Decide.{ℕ_discrete, dec_lt}
use Rattle.marked_edges.specs.Edges.{edges}
use Rattle.longest_runs.specs.Search.{done, Attained, nothing, by_step, SettledTo, Seen}

module _ (next : ℕ → ℕ → ℕ) (n : ℕ) (m v : ℕ → ℕ) (s : ℕ) where
  attained_on : (k e b : ℕ) → k ≤ e → Attained next n v s k b → Attained next n v s e b
  attained_on k e b l (nothing z) = nothing z
  attained_on k e b l (by_step j a i q) = by_step j (omega arith) i q

  -- steps to no state
  pub settled_past : (k e b : ℕ) → k ≤ e → e ≤ edges → ((j : ℕ) → k ≤ j → j < e → n ≤ next s j) → SettledTo next n m v s k b
      → SettledTo next n m v s e b
  settled_past k e b l u none g =
      record {
        most = u;
        finished = λ j a i. under j a i (dec_lt j k);
        upper = λ j a i. above j a i (dec_lt j k);
        attained = attained_on k e b l g.attained;
      }
    where
      never : (j : ℕ) → j < e → next s j < n → (j < k → ⊥) → ⊥
      never j a i f = let h = none j (omega arith) a in omega arith

      under : (j : ℕ) → j < e → next s j < n → Dec (j < k) → m (next s j) ≡ done
      under j a i (yes h) = g.finished j h i
      under j a i (no f) = absurd (never j a i f)

      above : (j : ℕ) → j < e → next s j < n → Dec (j < k) → v (next s j) < b
      above j a i (yes h) = g.upper j h i
      above j a i (no f) = absurd (never j a i f)

  -- a step to a state that is done
  pub settled_by : (k b t b' : ℕ) → k < edges → t ≡ next s k → t < n → m t ≡ done → b' ≡ max b (v t + 1) → SettledTo next n m v s k b
      → SettledTo next n m v s (k + 1) b'
  settled_by k b t b' u to inside d larger g =
      record {
        most = omega arith;
        finished = λ j a i. under j a i (ℕ_discrete j k);
        upper = λ j a i. above j a i (ℕ_discrete j k);
        attained = one (dec_lt (v t) b);
      }
    where
      there : (j : ℕ) → j ≡ k → next s j ≡ t
      there j q = ap (next s) q ∙ sym to

      under : (j : ℕ) → j < k + 1 → next s j < n → Dec (j ≡ k) → m (next s j) ≡ done
      under j a i (yes q) = ap m (there j q) ∙ d
      under j a i (no q) = g.finished j (omega arith) i

      above : (j : ℕ) → j < k + 1 → next s j < n → Dec (j ≡ k) → v (next s j) < b'
      above j a i (yes q) = let z : v (next s j) ≡ v t = ap v (there j q) in omega arith
      above j a i (no q) = let z = g.upper j (omega arith) i in omega arith

      one : Dec (v t < b) → Attained next n v s (k + 1) b'
      one (yes l) = let e : b' ≡ b = omega arith in rw e (attained_on k (k + 1) b (omega arith) g.attained)
      one (no l) = let z : v (next s k) ≡ v t = ap v (there k refl) in by_step k (omega arith) (rw (← to) inside) (omega arith)

  pub seen_all : (b : ℕ) → s < n → SettledTo next n m v s edges b → Seen next n m v s edges b 0
  seen_all b h g =
      record {
        settled = g;
        inside = omega arith;
        leads = λ l. absurd (omega arith);
        not_done = λ l. absurd (omega arith);
      }
