-- An order of turns, what it means that a failure is the lowest, and that an outcome says which one it is; and the first in a list. Things are compared by
-- their turns, lists of numbers in which the first difference decides. Laws: proofs/Lowest.
use Rattle.std.specs.Prelude.{◌≡◌, ◌⊎◌, Bool, false, ◌&&◌, ◌||◌, List, [], ◌∷◌, ℕ, ◌<◌, eqb, ltb}
use Rattle.foundation.specs.First.{Outcome, pass, fail}

-- the first difference decides
abbrev pub Lower : List ℕ → List ℕ → Type 0
Lower [] ys = ⊥
Lower (x ∷ xs) [] = ⊥
Lower (x ∷ xs) (y ∷ ys) = (x < y) ⊎ ((x ≡ y) × Lower xs ys)

-- as a test
abbrev pub lower_b : List ℕ → List ℕ → Bool
lower_b [] ys = false
lower_b (x ∷ xs) [] = false
lower_b (x ∷ xs) (y ∷ ys) = ltb x y || (eqb x y && lower_b xs ys)

-- x fails, and nothing whose turn is lower
pub record Lowest {A : Type 0} (turn : A → List ℕ) (Fails : A → Type 0) (x : A) : Type 0 where
  pub fails : Fails x
  pub none_before : (y : A) → Lower (turn y) (turn x) → Fails y → ⊥

-- the outcome says which failure is the lowest, or that there is none
pub data Settled {A : Type 0} (turn : A → List ℕ) (Fails : A → Type 0) : Outcome A → Type 0 where
  none : ((x : A) → Fails x → ⊥) → Settled turn Fails pass
  lowest : {x : A} → Lowest turn Fails x → Settled turn Fails (fail x)

-- ---- in an order that is given

-- the first number of a list that is so: it is, and those before it are not
pub data First (P : ℕ → Type 0) : List ℕ → ℕ → Type 0 where
  here : {k : ℕ} {ks : List ℕ} → P k → First P (k ∷ ks) k
  past : {j k : ℕ} {ks : List ℕ} → (P j → ⊥) → First P ks k → First P (j ∷ ks) k
