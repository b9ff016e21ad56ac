-- Of any table: a kind's number is at most the last (`known_within`). Of the table of a whole text: each kind has a rank of its own, its
-- number (`rank_own`, `rank_none`), at most the last and not 0 (`rank_most`, `rank_some`).
use Prim.Native.Nat.{ℕ, zero, suc, ◌≤◌, ◌<◌, max}
use mathlib.Core.Path.{◌≡◌, refl}
use mathlib.Core.Bool.{Bool, true, false, cond}
use mathlib.Core.List.{[], ◌∷◌}
use native.Mathlib.Omega.{arith}
use borrow.Author.Tests.{eqb-true, ne_eqb, leb-true, leb-false}
use lib.Dec.{eqb, leb}
use Rattle.kinds.specs.Kinds.{Table, whole_text, last_kind, entry_in, last_in}

pub known_within : (table : Table) (k : ℕ) → 1 ≤ (entry_in table k).most → k ≤ last_in table
unfolding entry_in last_in
known_within [] k h = absurd (omega arith)
known_within (e ∷ table) k h = go (eqb k e.0) refl h (known_within table k)
  where
    go : (b : Bool) → eqb k e.0 ≡ b → 1 ≤ (cond b e.1 (entry_in table k)).most → (1 ≤ (entry_in table k).most → k ≤ last_in table)
        → k ≤ max e.0 (last_in table)
    go true q h ih = let x = eqb-true k e.0 q in omega arith
    go false q h ih = let y = ih h in omega arith

pub rank_own : (k : ℕ) → k ≤ last_kind → (entry_in whole_text k).rank ≡ k
unfolding entry_in
rank_own zero h = refl
rank_own (suc zero) h = refl
rank_own (suc (suc zero)) h = refl
rank_own (suc (suc (suc zero))) h = refl
rank_own (suc (suc (suc (suc zero)))) h = refl
rank_own (suc (suc (suc (suc (suc zero))))) h = refl
rank_own (suc (suc (suc (suc (suc (suc zero)))))) h = refl
rank_own (suc (suc (suc (suc (suc (suc (suc zero))))))) h = refl
rank_own (suc (suc (suc (suc (suc (suc (suc (suc zero)))))))) h = refl
rank_own (suc (suc (suc (suc (suc (suc (suc (suc (suc k))))))))) h = absurd (omega arith)

pub rank_none : (k : ℕ) → last_kind < k → (entry_in whole_text k).rank ≡ 0
unfolding entry_in
rank_none k h =
    rw (ne_eqb k 1 (omega arith), ne_eqb k 2 (omega arith), ne_eqb k 3 (omega arith), ne_eqb k 4 (omega arith), ne_eqb k 5 (omega arith), ne_eqb k 6 (omega arith), ne_eqb k 7 (omega arith), ne_eqb k 8 (omega arith))

pub rank_most : (k : ℕ) → (entry_in whole_text k).rank ≤ last_kind
rank_most k = go (leb k last_kind) refl
  where
    go : (b : Bool) → leb k last_kind ≡ b → (entry_in whole_text k).rank ≤ last_kind
    go true e = let l = leb-true k last_kind e in let r = rank_own k l in omega arith
    go false e = let r = rank_none k (leb-false k last_kind e) in omega arith

-- a kind's number is not 0
pub rank_some : (k : ℕ) → 1 ≤ (entry_in whole_text k).most → 1 ≤ (entry_in whole_text k).rank
unfolding entry_in last_in
rank_some zero h = absurd (omega arith)
rank_some (suc k) h = let l = known_within whole_text (suc k) h in let r = rank_own (suc k) l in omega arith
