-- Of the lines of a whole text without fault 4: they are those of kind 1, then those of kind 2, and so on (`in_order`), as many of each as
-- there may be (`counted`), with the fields that they need (`exact_length`, `least_length`). Each kind has a rank of its own, its number.
use Prim.Native.Nat.{ℕ, ◌≤◌}
use mathlib.Core.Path.{◌≡◌, refl, ◌∙◌}
use mathlib.Core.Logic.{◌≢◌}
use mathlib.Core.Bool.{Bool, true, false}
use mathlib.Core.List.{List, [], ◌∷◌, ◌++◌, Memᴰ}
use native.Mathlib.Omega.{arith}
use borrow.Author.Tests.{ne_eqb, leb-true, leb-false}
use lib.Dec.{eqb, leb}
use lib.ListN.{length}
use Rattle.kinds.specs.Kinds.{whole_text, last_kind, entry_in, has_terms}
use Rattle.kinds.proofs.Table.{rank_own, rank_none, rank_most, rank_some}
use Rattle.design.specs.Lines.{kind_of, of_kind, count_of}
use Rattle.design.specs.Faults.{entry_of, of_rank, Allowed}
use Rattle.design.proofs.Fault4.{Climbs, none, next, Layout, gathered, gather}

-- ---- in order

rank_is : (j k : ℕ) → 1 ≤ k → k ≤ last_kind → eqb (entry_in whole_text j).rank k ≡ eqb j k
rank_is j k a b = go (leb j last_kind) refl
  where
    go : (s : Bool) → leb j last_kind ≡ s → eqb (entry_in whole_text j).rank k ≡ eqb j k
    go true e = rw (rank_own j (leb-true j last_kind e))
    go false e = let l = leb-false j last_kind e in rw (rank_none j l, ne_eqb j k (omega arith)) (ne_eqb 0 k (omega arith))

pub rank_kind : (k : ℕ) → 1 ≤ k → k ≤ last_kind → (lines : List (List ℕ)) → of_rank whole_text k lines ≡ of_kind k lines
unfolding of_rank of_kind
rank_kind k a b [] = refl
rank_kind k a b (line ∷ lines) = rw (rank_is (kind_of line) k a b, rank_kind k a b lines)

from_1 : {lines : List (List ℕ)} → Climbs whole_text 0 lines → Climbs whole_text 1 lines
from_1 none = none
from_1 (next {line = line} a b c) = next a (rank_some (kind_of line) a) c

pub in_order : {lines : List (List ℕ)} → Climbs whole_text 0 lines
    → of_kind 1 lines ++ (of_kind 2 lines ++ (of_kind 3 lines ++ (of_kind 4 lines ++ (of_kind 5 lines ++ (of_kind 6 lines ++ (of_kind 7 lines ++ (of_kind 8 lines ++ []))))))) ≡ lines
unfolding gathered
in_order {lines} c =
    rw (← r 1 (omega arith) (omega arith), ← r 2 (omega arith) (omega arith), ← r 3 (omega arith) (omega arith), ← r 4 (omega arith) (omega arith), ← r 5 (omega arith) (omega arith), ← r 6 (omega arith) (omega arith), ← r 7 (omega arith) (omega arith), ← r 8 (omega arith) (omega arith))
    (gather whole_text last_kind rank_most (from_1 c) 1 last_kind (omega arith) (omega arith))
  where
    r : (k : ℕ) → 1 ≤ k → k ≤ last_kind → of_rank whole_text k lines ≡ of_kind k lines
    r k a b = rank_kind k a b lines

-- ---- as many lines as the column "lines" says
pub record Counted (lines : List (List ℕ)) : Type 0 where
  pub kind1 : (1 ≤ count_of 1 lines) × (count_of 1 lines ≤ 8)
  pub kind2 : (1 ≤ count_of 2 lines) × (count_of 2 lines ≤ 8)
  pub kind3 : count_of 3 lines ≤ 32
  pub kind4 : count_of 4 lines ≤ 32
  pub kind5 : count_of 5 lines ≡ 1
  pub kind6 : count_of 6 lines ≡ 1
  pub kind7 : count_of 7 lines ≡ 1
  pub kind8 : count_of 8 lines ≤ 1

pub counted : {lines : List (List ℕ)} → Layout whole_text lines → Counted lines
unfolding entry_in
counted {lines} l =
    record {
      kind1 = of 1 (omega arith) (omega arith) (omega arith);
      kind2 = of 2 (omega arith) (omega arith) (omega arith);
      kind3 = (of 3 (omega arith) (omega arith) (omega arith)).1;
      kind4 = (of 4 (omega arith) (omega arith) (omega arith)).1;
      kind5 = one (of 5 (omega arith) (omega arith) (omega arith));
      kind6 = one (of 6 (omega arith) (omega arith) (omega arith));
      kind7 = one (of 7 (omega arith) (omega arith) (omega arith));
      kind8 = (of 8 (omega arith) (omega arith) (omega arith)).1;
    }
  where
    of : (k : ℕ) → 1 ≤ k → k ≤ last_kind → (entry_in whole_text k).most ≢ 0 → Allowed (entry_in whole_text k) (count_of k lines)
    of k a b z = rw (rank_own k b, rank_kind k a b lines) at (l.counts k z)

    one : {n : ℕ} → (1 ≤ n) × (n ≤ 1) → n ≡ 1
    one h = let a = h.0 in let b = h.1 in omega arith

-- ---- and as many fields: exactly those of a kind without terms, at least those before the terms
abbrev pub Exactly : ℕ → ℕ → Type 0
Exactly k n = (has_terms (entry_in whole_text k).terms ≡ false) × ((entry_in whole_text k).fixed ≡ n)

abbrev pub AtLeast : ℕ → ℕ → Type 0
AtLeast k n = (has_terms (entry_in whole_text k).terms ≡ true) × ((entry_in whole_text k).fixed ≡ n)

module _ {lines : List (List ℕ)} (l : Layout whole_text lines) (k n : ℕ) (line : List ℕ) (m : Memᴰ line lines) (e : kind_of line ≡ k) where
  pub exact_length : Exactly k n → length line ≡ n
  exact_length x = (l.lengths line m).0 (rw e x.0) ∙ rw e x.1

  pub least_length : AtLeast k n → n ≤ length line
  least_length x = let h = (l.lengths line m).1 (rw e x.0) in let f : (entry_of whole_text line).fixed ≡ n = rw e x.1 in omega arith

-- kinds 1 and 2, kinds 3 and 4, kinds 5 to 8
pub exactly_1 : Exactly 1 3
unfolding entry_in
exactly_1 = (refl, refl)

pub exactly_2 : Exactly 2 3
unfolding entry_in
exactly_2 = (refl, refl)

pub least_3 : AtLeast 3 3
unfolding entry_in
least_3 = (refl, refl)

pub least_4 : AtLeast 4 3
unfolding entry_in
least_4 = (refl, refl)

pub least_5 : AtLeast 5 1
unfolding entry_in
least_5 = (refl, refl)

pub least_6 : AtLeast 6 1
unfolding entry_in
least_6 = (refl, refl)

pub least_7 : AtLeast 7 1
unfolding entry_in
least_7 = (refl, refl)

pub least_8 : AtLeast 8 1
unfolding entry_in
least_8 = (refl, refl)
