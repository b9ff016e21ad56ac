-- A text of which a part is kept and the others are passed over.
use Rattle.std.proofs.Common.{◌≡◌, ℕ, ◌-◌, ◌<◌, ◌≤◌, min, List, [], ◌∷◌, ◌++◌, length, take, sym, ap, ◌∙◌, arith, append-nil, length-append, take_at}
use lib.Seq.{take_all}

-- all of what is in front, where nothing is behind it or no more is asked for
all_in_front : (m : ℕ) (front rest : List ℕ) → length front ≤ m → (0 < length rest → length front ≡ m) → take m (front ++ rest) ≡ front
all_in_front m front [] few at_end = ap (take m) (append-nil front) ∙ take_all m front few
all_in_front m front (b ∷ rest) few at_end = take_at front (b ∷ rest) m (at_end (omega arith))

pub start_kept : (n room : ℕ) (kept passed after : List ℕ) → length kept ≡ min n room → length passed ≡ n - min n room → length (kept ++ after) ≡ room
    → take (length (kept ++ after)) (kept ++ passed) ≡ take n (kept ++ after)
start_kept n room kept passed after k p r =
    let j = length-append kept after in
    rw r (all_in_front room kept passed (omega arith) (λ some. omega arith) ∙ sym (all_in_front n kept after (omega arith) (λ some. omega arith)))
