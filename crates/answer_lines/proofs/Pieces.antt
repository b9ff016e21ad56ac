-- The line of a measure in pieces: the laws of `put_places`' loop, and that the pieces joined are the line.
use Prim.Native.Nat.{ℕ, ◌+◌, ◌-◌, ◌*◌, ◌<◌, ◌≤◌}
use mathlib.Core.Path.{◌≡◌, sym, ap, ◌∙◌}
use mathlib.Core.Bool.{cond}
use mathlib.Core.List.{List, [], ◌∷◌, ◌++◌, append_assoc, append-nil}
use native.Mathlib.Numerals.{add-one}
use native.Mathlib.Omega.{arith}
use lib.ListN.{length, drop, get_or, drop_of_length-le}
use lib.Seq.{drop-cons}
use Rattle.answers.specs.declared.Measured.{Measured}
use Rattle.answers.specs.declared.Measured.TheVariants as measured
use Rattle.answer_lines.specs.Answers.{turned_down_words, numbered, next, places_of, measure_line, measure_head, places_follow, IsPiece}

-- ---- the places

places_at : (slice : List ℕ) (i : ℕ) → i < length slice → places_of (drop i slice) ≡ next (get_or slice i 0) ++ places_of (drop (i + 1) slice)
unfolding places_of
places_at slice i h = rw (add-one, drop-cons slice i 0 h)

pub one_more : (slice x₁ x₂ whole : List ℕ) (i : ℕ) → i < length slice → x₁ ++ places_of (drop i slice) ≡ whole
    → x₂ ≡ x₁ ++ next (get_or slice i 0) → x₂ ++ places_of (drop (i + 1) slice) ≡ whole
one_more slice x₁ x₂ whole i h e e₂ =
    ap (λ x. x ++ places_of (drop (i + 1) slice)) e₂
    ∙ (append_assoc x₁ (next (get_or slice i 0)) (places_of (drop (i + 1) slice)) ∙ (ap (λ x. x₁ ++ x) (sym (places_at slice i h)) ∙ e))

module _ (slice x : List ℕ) (from i at : ℕ) (low : from ≤ i) (few : at ≤ 21 * (i - from))
    (e : x ++ places_of (drop i slice) ≡ places_of (drop from slice)) where
  pub full : 4075 < at → IsPiece slice from i x
  full h = record { numbers = e; some = λ _. omega arith }

  pub ended : length slice ≤ i → IsPiece slice from i x
  ended h = record { numbers = e; some = λ l. omega arith }

-- ---- the whole line

-- pieces that follow one another, from a place on until there are no more
pub data Pieces (slice : List ℕ) : ℕ → List ℕ → Type 0 where
  no_more : {from : ℕ} → length slice ≤ from → Pieces slice from []
  piece : {from to : ℕ} {x rest : List ℕ} → IsPiece slice from to x → Pieces slice to rest → Pieces slice from (x ++ rest)

joined : {slice : List ℕ} {from : ℕ} {x : List ℕ} → Pieces slice from x → x ≡ places_of (drop from slice)
unfolding places_of
joined {slice = slice} {from = from} (no_more h) = rw (drop_of_length-le slice h)
joined (piece {x = x} p ps) = ap (λ y. x ++ y) (joined ps) ∙ p.numbers

-- the head, and if the places follow these in pieces and byte 10
pub line_in_pieces : (answer : Measured) (slice x : List ℕ) → Pieces slice 0 x
    → measure_head answer ++ cond (places_follow answer) (x ++ (10 ∷ [])) [] ≡ measure_line answer slice
line_in_pieces measured.Filled slice x p = rw (joined p)
line_in_pieces (measured.Loop s) slice x p = rw (joined p)
line_in_pieces (measured.TurnedDown k) slice x p = append-nil (numbered turned_down_words k)
