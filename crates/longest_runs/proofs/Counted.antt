-- One place of an array changed, the array being a function; and how many of the first k states have mark 0.
use mathlib.Core.Path.{◌≡◌, refl, ap}
use mathlib.Core.List.{List}
use Prim.Native.Nat.{ℕ, zero, suc, ◌+◌, ◌<◌, ◌≤◌}
use native.Mathlib.Omega.{arith}
use native.Mathlib.Decide.{ℕ_discrete}
use lib.ListN.{length, set}
use lib.Seq.{get_or-set_same, get_or-set_other}
use Rattle.longest_runs.specs.Search.{view}

pub record Change (f f' : ℕ → ℕ) (i a : ℕ) : Type 0 where
  pub here : f' i ≡ a
  pub else : (x : ℕ) → (x ≡ i → ⊥) → f' x ≡ f x

pub put : (l : List ℕ) (i a : ℕ) → i < length l → Change (view l) (view (set l i a)) i a
put l i a h = record { here = get_or-set_same l i a 0 h; else = λ x e. get_or-set_other l i x a 0 e }

abbrev zero_count : ℕ → ℕ
zero_count zero = 1
zero_count (suc a) = 0

unfoldable pub unseen : (ℕ → ℕ) → ℕ → ℕ
unseen m zero = 0
unseen m (suc k) = unseen m k + zero_count (m k)

count_none : (a : ℕ) → 0 < a → zero_count a ≡ 0
count_none zero h = absurd (omega arith)
count_none (suc a) h = refl

pub unseen_most : (m : ℕ → ℕ) (k : ℕ) → unseen m k ≤ k
unfolding unseen
unseen_most m zero = omega arith
unseen_most m (suc k) = go (m k) (unseen_most m k)
  where
    go : (a : ℕ) → unseen m k ≤ k → unseen m k + zero_count a ≤ suc k
    go zero h = omega arith
    go (suc a) h = omega arith

-- the mark of s changed to another than 0
module _ (m m' : ℕ → ℕ) (s a : ℕ) (change : Change m m' s a) (some : 0 < a) where
  unseen_below : (k : ℕ) → k ≤ s → unseen m' k ≡ unseen m k
  unfolding unseen
  unseen_below zero h = refl
  unseen_below (suc k) h = rw (unseen_below k (omega arith), change.else k (λ e. omega arith))

  now_none : (k : ℕ) → k ≡ s → zero_count (m' k) ≡ 0
  now_none k e = count_none (m' k) (rw (e, change.here) some)

  -- it was another before
  pub unseen_kept : 0 < m s → (k : ℕ) → unseen m' k ≡ unseen m k
  unfolding unseen
  unseen_kept b zero = refl
  unseen_kept b (suc k) = go (ℕ_discrete k s) (unseen_kept b k)
    where
      go : Dec (k ≡ s) → unseen m' k ≡ unseen m k → unseen m' k + zero_count (m' k) ≡ unseen m k + zero_count (m k)
      go (yes e) u = rw (u, now_none k e, count_none (m k) (rw e b))
      go (no e) u = rw (u, change.else k e)

  -- it was 0
  pub unseen_less : m s ≡ 0 → (k : ℕ) → s < k → unseen m' k + 1 ≡ unseen m k
  unfolding unseen
  unseen_less z zero l = absurd (omega arith)
  unseen_less z (suc k) l = go (ℕ_discrete k s) (λ h. unseen_less z k h)
    where
      go : Dec (k ≡ s) → (s < k → unseen m' k + 1 ≡ unseen m k) → unseen m' k + zero_count (m' k) + 1 ≡ unseen m k + zero_count (m k)
      go (yes e) rest =
          let u : unseen m' k ≡ unseen m k = unseen_below k (omega arith) in
          let q : m k ≡ 0 = rw e z in
          let r : zero_count (m k) ≡ 1 = rw q in
          let r' : zero_count (m' k) ≡ 0 = now_none k e in
          omega arith
      go (no e) rest =
          let u : unseen m' k + 1 ≡ unseen m k = rest (omega arith) in
          let q : zero_count (m' k) ≡ zero_count (m k) = ap zero_count (change.else k e) in
          omega arith
