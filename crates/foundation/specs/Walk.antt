-- A walk: n examinations in a row, up to the first failure; how many were made; and a walk in pieces. It is said once, for any
-- examination f of a number: what is examined there, and how, is not here. Laws: proofs/Walk.
use Rattle.std.specs.Prelude.{◌≡◌, List, [], ◌∷◌, ℕ, zero, suc, ◌+◌, ◌<◌}
use Rattle.foundation.specs.First.{Outcome, pass, fail, AllPass}

-- what came of it, and how many were examined, the failing one included
pub record Walked (A : Type 0) : Type 0 where
  pub outcome : Outcome A
  pub count : ℕ

-- c examined before
abbrev pub plus : {A : Type 0} → ℕ → Walked A → Walked A
plus c w = record { outcome = w.outcome; count = c + w.count }

-- one examination, and the rest of the walk if it passes
abbrev pub after : {A : Type 0} → Outcome A → Walked A → Walked A
after pass w = plus 1 w
after (fail x) w = record { outcome = fail x; count = 1 }

-- n of them, from number i on
unfoldable pub walk : {A : Type 0} → (ℕ → Outcome A) → ℕ → ℕ → Walked A
walk f zero i = record { outcome = pass; count = 0 }
walk f (suc n) i = let w = walk f n (suc i) in after (f i) w

-- one walk, and the next if it passes
abbrev pub then_by : {A : Type 0} → Outcome A → Walked A → Walked A → Walked A
then_by pass w v = plus w.count v
then_by (fail x) w v = w

abbrev pub then : {A : Type 0} → Walked A → Walked A → Walked A
then w v = then_by w.outcome w v

-- in pieces: the first of n states, the next of m, ..
unfoldable pub pieces : {A : Type 0} → (ℕ → Outcome A) → List ℕ → ℕ → Walked A
pieces f [] i = record { outcome = pass; count = 0 }
pieces f (n ∷ ns) i = then (walk f n i) (pieces f ns (i + n))

abbrev pub total : List ℕ → ℕ
total [] = 0
total (n ∷ ns) = n + total ns

-- ---- the law of the walk

-- what a walk of n from i comes to
pub data WalkIs {A : Type 0} (f : ℕ → Outcome A) (n i : ℕ) : Walked A → Type 0 where
  -- all n pass, and all are counted
  passed : AllPass f n i → WalkIs f n i (record { outcome = pass; count = n })
  -- k pass and the next one fails: that stops it, and is counted as well
  stopped : (k : ℕ) {x : A} → k < n → AllPass f k i → f (i + k) ≡ fail x → WalkIs f n i (record { outcome = fail x; count = suc k })

pub record WalkLaw {A : Type 0} (f : ℕ → Outcome A) : Type 0 where
  -- every walk comes to one of the two
  pub is : (n i : ℕ) → WalkIs f n i (walk f n i)
  -- and to nothing else
  pub only : (n i : ℕ) (w : Walked A) → WalkIs f n i w → walk f n i ≡ w
  -- to walk n and then m is to walk n + m
  pub add : (n m i : ℕ) → walk f (n + m) i ≡ then (walk f n i) (walk f m (i + n))
  -- however a walk is divided, it is one walk
  pub divided : (ns : List ℕ) (i : ℕ) → pieces f ns i ≡ walk f (total ns) i
