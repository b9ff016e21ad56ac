-- How tests that say whether something is so are put together.
use mathlib.Core.Path.{◌≡◌, refl, sym, subst}
use mathlib.Core.Logic.{◌↔◌, ◌⊎◌, inl, inr, ⊎_elim}
use mathlib.Core.Bool.{Bool, true, false, not, ◌&&◌, ◌||◌, true≢false}
use mathlib.Core.List.{List, [], ◌∷◌}
use Prim.Native.Nat.{ℕ, ◌<◌}
use native.Mathlib.Omega.{arith}
use borrow.Author.Tests.{eqb-true, eqb-false, ltb-true, ltb-false}
use lib.Dec.{eqb, ltb}
use Rattle.foundation.specs.Radix.{Below, below_b, same_b}
use Rattle.foundation.specs.Reflects.{Reflects, so, not_so, ◌⇒◌}

-- what it says
pub says_yes : {P : Type 0} {b : Bool} → Reflects P b → b ≡ true → P
says_yes (so p) h = p
says_yes (not_so n) h = absurd (true≢false (sym h))

pub says_no : {P : Type 0} {b : Bool} → Reflects P b → b ≡ false → P → ⊥
says_no (so p) h = absurd (true≢false h)
says_no (not_so n) h = n

pub is_so : {P : Type 0} {b : Bool} → Reflects P b → P → b ≡ true
is_so (so p) q = refl
is_so (not_so n) q = absurd (n q)

pub is_not : {P : Type 0} {b : Bool} → Reflects P b → (P → ⊥) → b ≡ false
is_not (so p) n = absurd (n p)
is_not (not_so n) m = refl

pub exactly : {P : Type 0} {b : Bool} → Reflects P b → (b ≡ true) ↔ P
exactly r = (says_yes r, is_so r)

-- two tests of one thing say the same
pub same_test : {P : Type 0} {a b : Bool} → Reflects P a → Reflects P b → a ≡ b
same_test (so p) r = sym (is_so r p)
same_test (not_so n) r = sym (is_not r n)

-- a test's own value; numbers; lists of numbers
pub by_value : (b : Bool) → Reflects (b ≡ true) b
by_value true = so refl
by_value false = not_so (λ h. true≢false (sym h))

pub by_eqb : (m n : ℕ) → Reflects (m ≡ n) (eqb m n)
by_eqb m n = go (eqb m n) refl
  where
    go : (b : Bool) → eqb m n ≡ b → Reflects (m ≡ n) b
    go true h = so (eqb-true m n h)
    go false h = not_so (eqb-false m n h)

pub by_ltb : (m n : ℕ) → Reflects (m < n) (ltb m n)
by_ltb m n = go (ltb m n) refl
  where
    go : (b : Bool) → ltb m n ≡ b → Reflects (m < n) b
    go true h = so (ltb-true m n h)
    go false h = not_so (λ l. let k = ltb-false m n h in omega arith)

-- the same of what is equivalent
pub by_iff : {P Q : Type 0} {a : Bool} → (P → Q) → (Q → P) → Reflects P a → Reflects Q a
by_iff f g (so p) = so (f p)
by_iff f g (not_so n) = not_so (λ q. n (g q))

-- not, and, if
pub by_not : {P : Type 0} {a : Bool} → Reflects P a → Reflects (P → ⊥) (not a)
by_not (so p) = not_so (λ n. n p)
by_not (not_so n) = so n

pub by_and : {P Q : Type 0} {a b : Bool} → Reflects P a → Reflects Q b → Reflects (P × Q) (a && b)
by_and (so p) (so q) = so (p, q)
by_and (so p) (not_so n) = not_so (λ h. n h.1)
by_and (not_so n) r = not_so (λ h. n h.0)

pub by_or : {P Q : Type 0} {a b : Bool} → Reflects P a → Reflects Q b → Reflects (P ⊎ Q) (a || b)
by_or (so p) r = so (inl p)
by_or (not_so n) (so q) = so (inr q)
by_or (not_so n) (not_so m) = not_so (⊎_elim n m)

-- the second is asked for only where the first is so
pub by_if : {P Q : Type 0} {a : Bool} (b : Bool) → Reflects P a → (P → Reflects Q b) → Reflects (P → Q) (a ⇒ b)
by_if b (so p) r = by_iff (λ q _. q) (λ h. h p) (r p)
by_if b (not_so n) r = so (λ p. absurd (n p))

pub by_below : (zs vs : List ℕ) → Reflects (Below zs vs) (below_b zs vs)
by_below [] [] = so tt
by_below [] (v ∷ vs) = not_so (λ b. b)
by_below (z ∷ zs) [] = not_so (λ b. b)
by_below (z ∷ zs) (v ∷ vs) = by_and (by_ltb v z) (by_below zs vs)

IsNil : List ℕ → Type 0
IsNil [] = Unit {0}
IsNil (x ∷ xs) = ⊥

pub by_same : (vs ws : List ℕ) → Reflects (vs ≡ ws) (same_b vs ws)
unfolding IsNil
by_same [] [] = so refl
by_same [] (w ∷ ws) = not_so (λ h. subst IsNil h tt)
by_same (v ∷ vs) [] = not_so (λ h. subst IsNil (sym h) tt)
by_same (v ∷ vs) (w ∷ ws) = by_iff (λ h i. h.0 i ∷ h.1 i) (λ h. (cc, cc)) (by_and (by_eqb v w) (by_same vs ws))

-- ---- both of two, in another order
pub and_swap : (a b c d : Bool) → (a && b) && (c && d) ≡ (a && c) && (b && d)
and_swap true true c d = refl
and_swap true false true d = refl
and_swap true false false d = refl
and_swap false b c d = refl
