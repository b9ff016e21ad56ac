-- The test whether all say yes: as a loop that counts up, what is left of it, from i on, being the whole; one that says no; and two tests
-- that agree.
use mathlib.Core.Path.{◌≡◌, refl}
use mathlib.Core.Bool.{Bool, true, false, ◌&&◌, true≢false}
use Prim.Native.Nat.{ℕ, zero, suc, ◌+◌, ◌-◌, ◌≤◌, ◌<◌}
use native.Mathlib.Numerals.{add-one}
use native.Mathlib.Omega.{arith}
use Rattle.foundation.specs.First.{all_in_range}

module _ (t : ℕ → Bool) (n : ℕ) where
  pub all_begin : all_in_range t (n - 0) 0 ≡ all_in_range t n 0
  all_begin = let e : n - 0 ≡ n = omega arith in rw e

  -- a turn that says yes, and one that says no
  pub all_turn : (i : ℕ) → i < n → t i ≡ true → all_in_range t (n - i) i ≡ all_in_range t (n - (i + 1)) (i + 1)
  unfolding all_in_range
  all_turn i l h = let e : n - i ≡ suc (n - (i + 1)) = omega arith in rw (e, add-one i, h)

  pub all_fail : (i : ℕ) → i < n → t i ≡ false → all_in_range t (n - i) i ≡ false
  unfolding all_in_range
  all_fail i l h = let e : n - i ≡ suc (n - (i + 1)) = omega arith in rw (e, h)

  pub all_end : (i : ℕ) → n ≤ i → all_in_range t (n - i) i ≡ true
  unfolding all_in_range
  all_end i l = let e : n - i ≡ 0 = omega arith in rw e

-- all say yes
pub all_yes : (g : ℕ → Bool) → ((i : ℕ) → g i ≡ true) → (n i : ℕ) → all_in_range g n i ≡ true
unfolding all_in_range
all_yes g h zero i = refl
all_yes g h (suc n) i = rw (h i, all_yes g h n (suc i))

-- where not all do, one says no
pub record SaysNo (t : ℕ → Bool) (n i : ℕ) : Type 0 where
  pub at : ℕ
  pub from : i ≤ at
  pub below : at < i + n
  pub no : t at ≡ false

pub one_no : (t : ℕ → Bool) (n i : ℕ) → all_in_range t n i ≡ false → SaysNo t n i
unfolding all_in_range
one_no t zero i h = absurd (true≢false h)
one_no t (suc n) i h = go (t i) refl h (λ g. one_no t n (suc i) g)
  where
    go : (b : Bool) → t i ≡ b → b && all_in_range t n (suc i) ≡ false → (all_in_range t n (suc i) ≡ false → SaysNo t n (suc i)) → SaysNo t (suc n) i
    go true e g later =
        let r = later g in
        let from = r.from in
        let below = r.below in
        record { at = r.at; from = omega arith; below = omega arith; no = r.no }
    go false e g later = record { at = i; from = omega arith; below = omega arith; no = e }

-- two tests that say the same as far as they are asked
pub all_in : (g h : ℕ → Bool) (n i : ℕ) → ((j : ℕ) → i ≤ j → j < i + n → g j ≡ h j) → all_in_range g n i ≡ all_in_range h n i
unfolding all_in_range
all_in g h zero i e = refl
all_in g h (suc n) i e = rw (e i (omega arith) (omega arith), all_in g h n (suc i) (λ j l u. e j (omega arith) (omega arith)))
