-- Turns are ordered: of two of the same length one is lower, or they are equal. So there is one lowest failure at most, and an
-- outcome that is settled is the only one.
use mathlib.Core.Path.{◌≡◌, refl, sym, ◌∙◌, ap, subst}
use mathlib.Core.Logic.{inl, inr, ◌↔◌}
use mathlib.Core.List.{List, [], ◌∷◌}
use Prim.Native.Nat.{ℕ, ◌<◌}
use native.Mathlib.Omega.{arith}
use native.Mathlib.Nat.{suc_inj}
use native.Mathlib.Decide.{dec_lt}
use lib.ListN.{length}
use Rattle.foundation.specs.First.{Outcome, pass, fail}
use Rattle.foundation.specs.Lowest.{Lower, lower_b, Lowest, Settled, none, lowest}
use Rattle.foundation.specs.Reflects.{Reflects, not_so}
use Rattle.foundation.proofs.Reflects.{by_eqb, by_ltb, by_and, by_or}

-- ---- the order of turns

pub by_lower : (xs ys : List ℕ) → Reflects (Lower xs ys) (lower_b xs ys)
by_lower [] ys = not_so (λ b. b)
by_lower (x ∷ xs) [] = not_so (λ b. b)
by_lower (x ∷ xs) (y ∷ ys) = by_or (by_ltb x y) (by_and (by_eqb x y) (by_lower xs ys))

pub lower_trans : (xs ys zs : List ℕ) → Lower xs ys → Lower ys zs → Lower xs zs
lower_trans [] ys zs l m = absurd l
lower_trans (x ∷ xs) [] zs l m = absurd l
lower_trans (x ∷ xs) (y ∷ ys) [] l m = absurd m
lower_trans (x ∷ xs) (y ∷ ys) (z ∷ zs) (inl l) (inl m) = inl (omega arith)
lower_trans (x ∷ xs) (y ∷ ys) (z ∷ zs) (inl l) (inr (e, m)) = inl (omega arith)
lower_trans (x ∷ xs) (y ∷ ys) (z ∷ zs) (inr (e, l)) (inl m) = inl (omega arith)
lower_trans (x ∷ xs) (y ∷ ys) (z ∷ zs) (inr (e, l)) (inr (f, m)) = inr (e ∙ f, lower_trans xs ys zs l m)

pub lower_not_self : (xs : List ℕ) → Lower xs xs → ⊥
lower_not_self [] l = l
lower_not_self (x ∷ xs) (inl l) = omega arith
lower_not_self (x ∷ xs) (inr (e, l)) = lower_not_self xs l

data Order (a b : ℕ) : Type 0 where
  less : a < b → Order a b
  same : a ≡ b → Order a b
  more : b < a → Order a b

order : (a b : ℕ) → Order a b
order a b = go (dec_lt a b) (dec_lt b a)
  where
    go : Dec (a < b) → Dec (b < a) → Order a b
    go (yes l) m = less l
    go (no l) (yes m) = more m
    go (no l) (no m) = same (omega arith)

pub data Compared (xs ys : List ℕ) : Type 0 where
  lower : Lower xs ys → Compared xs ys
  equal : xs ≡ ys → Compared xs ys
  higher : Lower ys xs → Compared xs ys

pub compared : (xs ys : List ℕ) → length xs ≡ length ys → Compared xs ys
compared [] [] h = equal refl
compared [] (y ∷ ys) h = absurd (omega arith)
compared (x ∷ xs) [] h = absurd (omega arith)
compared (x ∷ xs) (y ∷ ys) h = go (order x y) (compared xs ys (suc_inj h))
  where
    go : Order x y → Compared xs ys → Compared (x ∷ xs) (y ∷ ys)
    go (less l) c = lower (inl l)
    go (more l) c = higher (inl l)
    go (same e) (lower l) = lower (inr (e, l))
    go (same e) (equal p) = equal (λ i. e i ∷ p i)
    go (same e) (higher l) = higher (inr (sym e, l))

-- ---- one lowest

-- a turn says what has it
pub record Turns {A : Type 0} (turn : A → List ℕ) : Type 0 where
  pub same_length : (x y : A) → length (turn x) ≡ length (turn y)
  pub tells : (x y : A) → turn x ≡ turn y → x ≡ y

module _ {A : Type 0} (turn : A → List ℕ) (ts : Turns turn) (Fails : A → Type 0) where
  pub lowest_one : (x y : A) → Lowest turn Fails x → Lowest turn Fails y → x ≡ y
  lowest_one x y p q = go (compared (turn x) (turn y) (ts.same_length x y))
    where
      go : Compared (turn x) (turn y) → x ≡ y
      go (lower l) = absurd (q.none_before x l p.fails)
      go (equal e) = ts.tells x y e
      go (higher l) = absurd (p.none_before y l q.fails)

  pub settled_one : {o o' : Outcome A} → Settled turn Fails o → Settled turn Fails o' → o ≡ o'
  settled_one (none n) (none m) = refl
  settled_one (none n) (lowest {x = x} p) = absurd (n x p.fails)
  settled_one (lowest {x = x} p) (none n) = absurd (n x p.fails)
  settled_one (lowest {x = x} p) (lowest {x = y} q) = ap fail (lowest_one x y p q)

  -- so a settled outcome passes exactly if there is no failure, and fails exactly with the lowest
  pub passes_exactly : {o : Outcome A} → Settled turn Fails o → (o ≡ pass) ↔ ((x : A) → Fails x → ⊥)
  passes_exactly {o} s = (λ h. of (subst (Settled turn Fails) h s), λ n. settled_one s (none n))
    where
      of : Settled turn Fails pass → (x : A) → Fails x → ⊥
      of (none n) = n

  pub fails_exactly : {o : Outcome A} → Settled turn Fails o → (x : A) → (o ≡ fail x) ↔ Lowest turn Fails x
  fails_exactly {o} s x = (λ h. of (subst (Settled turn Fails) h s), λ l. settled_one s (lowest l))
    where
      of : Settled turn Fails (fail x) → Lowest turn Fails x
      of (lowest l) = l

-- the same of what fails alike
pub settled_same : {A : Type 0} (turn : A → List ℕ) (F G : A → Type 0) → ((x : A) → F x → G x) → ((x : A) → G x → F x)
    → {o : Outcome A} → Settled turn F o → Settled turn G o
settled_same turn F G to from (none n) = none (λ x g. n x (from x g))
settled_same turn F G to from (lowest {x = x} p) = lowest (record { fails = to x p.fails; none_before = λ y l g. p.none_before y l (from y g) })
