-- A test of each line says whether something is so of each line (`by_each_line`); tests of numbers.
use Prim.Native.Nat.{ℕ, zero, suc, ◌+◌, ◌≤◌, ◌<◌}
use mathlib.Core.Path.{◌≡◌, refl}
use mathlib.Core.Logic.{◌⊎◌, inl, inr}
use mathlib.Core.Bool.{Bool, true, false, ◌&&◌, true≢false}
use mathlib.Core.List.Memᴰ
use mathlib.Core.List.{List, [], ◌∷◌, Memᴰ}
use native.Mathlib.Omega.{arith}
use borrow.Author.Tests.{leb-true, leb-false}
use lib.Dec.{leb}
use Rattle.foundation.specs.First.{all_in_range}
use Rattle.foundation.specs.Reflects.{Reflects, so, not_so}
use Rattle.foundation.proofs.Reflects.{by_and, by_iff}
use Rattle.design.specs.Tests.{each_line_is}

abbrev pub EachLine : (List ℕ → Type 0) → List (List ℕ) → Type 0
EachLine P lines = (line : List ℕ) → Memᴰ line lines → P line

pub each_cons : (P : List ℕ → Type 0) {l : List ℕ} {lines : List (List ℕ)} → P l → EachLine P lines → EachLine P (l ∷ lines)
each_cons P {l} {lines} p ps line m = go (Memᴰ.cases_cons m)
  where
    go : (line ≡ l) ⊎ Memᴰ line lines → P line
    go (inl e) = rw e p
    go (inr n) = ps line n

pub by_each_line : (P : List ℕ → Type 0) (test : List ℕ → Bool) → ((line : List ℕ) → Reflects (P line) (test line))
    → (lines : List (List ℕ)) → Reflects (EachLine P lines) (each_line_is test lines)
unfolding each_line_is
by_each_line P test by [] = so (λ line m. absurd (Memᴰ.not-nil m))
by_each_line P test by (l ∷ lines) =
    by_iff (λ h. each_cons P h.0 h.1) (λ h. (h l (Memᴰ.head refl), λ line m. h line (Memᴰ.tail m)))
    (by_and (by l) (by_each_line P test by lines))

-- and where it says no, of one it is not so
pub record SomeLine (test : List ℕ → Bool) (lines : List (List ℕ)) : Type 0 where
  pub line : List ℕ
  pub among : Memᴰ line lines
  pub fails : test line ≡ false

pub some_line : (test : List ℕ → Bool) (lines : List (List ℕ)) → each_line_is test lines ≡ false → SomeLine test lines
unfolding each_line_is
some_line test [] h = absurd (true≢false h)
some_line test (l ∷ lines) h = go (test l) refl h (some_line test lines)
  where
    go : (b : Bool) → test l ≡ b → (b && each_line_is test lines) ≡ false → (each_line_is test lines ≡ false → SomeLine test lines) → SomeLine test (l ∷ lines)
    go true e h ih = let s = ih h in record { line = s.line; among = Memᴰ.tail s.among; fails = s.fails }
    go false e h ih = record { line = l; among = Memᴰ.head refl; fails = e }

-- the same of numbers i, i + 1, .., n of them
pub record SomeNumber (test : ℕ → Bool) (n i : ℕ) : Type 0 where
  pub number : ℕ
  pub from : i ≤ number
  pub below : number < i + n
  pub fails : test number ≡ false

pub some_number : (test : ℕ → Bool) (n i : ℕ) → all_in_range test n i ≡ false → SomeNumber test n i
unfolding all_in_range
some_number test zero i h = absurd (true≢false h)
some_number test (suc n) i h = go (test i) refl h (some_number test n (suc i))
  where
    go : (b : Bool) → test i ≡ b → (b && all_in_range test n (suc i)) ≡ false → (all_in_range test n (suc i) ≡ false → SomeNumber test n (suc i)) → SomeNumber test (suc n) i
    go true e h ih = let s = ih h in let f = s.from in let b = s.below in record { number = s.number; from = omega arith; below = omega arith; fails = s.fails }
    go false e h ih = record { number = i; from = omega arith; below = omega arith; fails = e }

-- of two tests one says no
pub one_of : (a b : Bool) → (a && b) ≡ false → (a ≡ false) ⊎ (b ≡ false)
one_of true b h = inr h
one_of false b h = inl refl

pub by_leb : (m n : ℕ) → Reflects (m ≤ n) (leb m n)
by_leb m n = go (leb m n) refl
  where
    go : (b : Bool) → leb m n ≡ b → Reflects (m ≤ n) b
    go true e = so (leb-true m n e)
    go false e = not_so (λ h. let l = leb-false m n e in omega arith)

-- for i, i + 1, .., n of them
abbrev pub AllIn : (ℕ → Type 0) → ℕ → ℕ → Type 0
AllIn P n i = (k : ℕ) → i ≤ k → k < i + n → P k
