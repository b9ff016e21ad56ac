-- What a desk's arrays hold is what was put there: line i is the i-th line (`line_held`, `line_from_lem`), so the lines that they hold
-- are those given (`lines_held`), and the first of them the first of those (`first_held`). And what is stored for one line more
-- (`fields_more`, `starts_more`).
use Prim.Native.Nat.{ℕ, zero, suc, ◌+◌, ◌-◌, ◌≤◌, ◌<◌}
use mathlib.Core.Path.{◌≡◌, refl, sym, ap, ◌∙◌}
use mathlib.Core.List.{List, [], ◌∷◌, ◌++◌, map, append_assoc, append-nil}
use native.Mathlib.Omega.{arith}
use native.Mathlib.Numerals.{add-one}
use lib.ListN.{length, get_or, set, take, drop, replicate, length-replicate, length-append, get_or-append}
use lib.Seq.{sets, sets-eq, drop-append-add, drop-cons, take-append_seam, take-length}
use Rattle.reader.specs.Text.{count_all}
use Rattle.design.specs.Loaded.{line_from, line_at, each_line_of, held_lines, joined, starts_from, fields_held, starts_held}

-- ---- lists of lines

pub length_joined : (lines : List (List ℕ)) → length (joined lines) ≡ count_all lines
unfolding joined count_all
length_joined [] = refl
length_joined (line ∷ lines) = rw (length-append line (joined lines), length_joined lines)

length_starts : (at : ℕ) (lines : List (List ℕ)) → length (starts_from at lines) ≡ suc (length lines)
unfolding starts_from
length_starts at [] = refl
length_starts at (line ∷ lines) = ap suc (length_starts (at + length line) lines)

-- where line i starts
start_of : (at : ℕ) (lines : List (List ℕ)) (i : ℕ) → i ≤ length lines → get_or (starts_from at lines) i 0 ≡ at + count_all (take i lines)
unfolding starts_from count_all
start_of at [] zero h = omega arith
start_of at [] (suc i) h = absurd (omega arith)
start_of at (line ∷ lines) zero h = omega arith
start_of at (line ∷ lines) (suc i) h = start_of (at + length line) lines i (omega arith) ∙ omega arith

-- and what stands from there on
drop_joined : (lines : List (List ℕ)) (i : ℕ) (more : List ℕ) → drop (count_all (take i lines)) (joined lines ++ more) ≡ joined (drop i lines) ++ more
unfolding joined count_all
drop_joined [] zero more = refl
drop_joined [] (suc i) more = refl
drop_joined (line ∷ lines) zero more = refl
drop_joined (line ∷ lines) (suc i) more =
    rw (append_assoc line (joined lines) more, drop-append-add line (joined lines ++ more) (count_all (take i lines))) (drop_joined lines i more)

-- ---- storing one list after another, and one line more

pub sets_append : (l xs ys : List ℕ) (to : ℕ) → sets (sets l to xs) (to + length xs) ys ≡ sets l to (xs ++ ys)
sets_append l [] ys to = let e : to + 0 ≡ to = omega arith in rw e
sets_append l (x ∷ xs) ys to =
    let e : to + suc (length xs) ≡ suc to + length xs = omega arith in
    rw e (sets_append (set l to x) xs ys (suc to))

joined_more : (lines : List (List ℕ)) (line : List ℕ) → joined (lines ++ line ∷ []) ≡ joined lines ++ line
unfolding joined
joined_more [] line = append-nil line
joined_more (l ∷ lines) line = ap (λ r. l ++ r) (joined_more lines line) ∙ sym (append_assoc l (joined lines) line)

starts_then : (at : ℕ) (lines : List (List ℕ)) (line : List ℕ)
    → starts_from at (lines ++ line ∷ []) ≡ starts_from at lines ++ (at + count_all lines + length line) ∷ []
unfolding starts_from count_all
starts_then at [] line = let e : at + 0 + length line ≡ at + length line = omega arith in rw e
starts_then at (l ∷ lines) line =
    let e : at + length l + count_all lines + length line ≡ at + (length l + count_all lines) + length line = omega arith in
    ap (λ r. at ∷ r) (starts_then (at + length l) lines line ∙ rw e)

pub fields_more : (lines : List (List ℕ)) (line : List ℕ) → sets (fields_held lines) (count_all lines) line ≡ fields_held (lines ++ line ∷ [])
unfolding fields_held
fields_more lines line =
    let e : 0 + length (joined lines) ≡ count_all lines = omega (arith, length_joined lines) in
    rw (← e, joined_more lines line) (sets_append (replicate 4096 0) (joined lines) line 0)

pub starts_more : (lines : List (List ℕ)) (line : List ℕ)
    → set (starts_held lines) (length lines + 1) (count_all lines + length line) ≡ starts_held (lines ++ line ∷ [])
unfolding starts_held
starts_more lines line =
    let e : 0 + length (starts_from 0 lines) ≡ length lines + 1 = omega (arith, length_starts 0 lines) in
    let n : 0 + count_all lines + length line ≡ count_all lines + length line = omega arith in
    rw (← e, starts_then 0 lines line, n) (sets_append (replicate 85 0) (starts_from 0 lines) ((count_all lines + length line) ∷ []) 0)

-- ---- what the arrays hold

-- what follows the last line's fields
pub zeros : List (List ℕ) → List ℕ
zeros lines = drop (length (joined lines)) (replicate 4096 0)

module _ (lines : List (List ℕ)) (few : length lines ≤ 84) (fit : count_all lines ≤ 4096) where
  fields_are : fields_held lines ≡ joined lines ++ zeros lines
  unfolding fields_held zeros
  fields_are =
      let long : length (replicate {A = ℕ} 4096 0) ≡ 4096 = length-replicate {A = ℕ} 4096 0 in
      let l = length_joined lines in
      let all : 0 + length (joined lines) ≡ length (joined lines) = omega arith in
      sets-eq (joined lines) (replicate 4096 0) 0 (omega arith) ∙ rw all

  -- where line i starts
  pub starts_are : (i : ℕ) → i ≤ length lines → get_or (starts_held lines) i 0 ≡ count_all (take i lines)
  unfolding starts_held
  starts_are i h =
      let long : length (replicate {A = ℕ} 85 0) ≡ 85 = length-replicate {A = ℕ} 85 0 in
      let l = length_starts 0 lines in
      rw
      (sets-eq (starts_from 0 lines) (replicate 85 0) 0 (omega arith), get_or-append (starts_from 0 lines) (drop (0 + length (starts_from 0 lines)) (replicate 85 0)) 0 i (omega arith), start_of 0 lines i h)
      (omega arith)

  -- from line i on: the later lines, one after the other
  pub line_from_lem : (i : ℕ) → i ≤ length lines → line_from (fields_held lines) (starts_held lines) i ≡ joined (drop i lines) ++ zeros lines
  line_from_lem i h = rw (starts_are i h, fields_are) (drop_joined lines i (zeros lines))

count_next : (lines : List (List ℕ)) (i : ℕ) → i < length lines → count_all (take (i + 1) lines) ≡ count_all (take i lines) + length (get_or lines i [])
unfolding count_all
count_next [] i h = absurd (omega arith)
count_next (line ∷ lines) zero h = omega arith
count_next (line ∷ lines) (suc i) h = rw (add-one (suc i)) (let e = count_next lines i (omega arith) in let f = rw (add-one i) at e in omega arith)

first_of : (lines : List (List ℕ)) (i : ℕ) → i < length lines → joined (drop i lines) ≡ get_or lines i [] ++ joined (drop (suc i) lines)
unfolding joined
first_of [] i h = absurd (omega arith)
first_of (line ∷ lines) zero h = refl
first_of (line ∷ lines) (suc i) h = first_of lines i (omega arith)

-- ---- what lines say

pub each_same : {A : Type 0} (says says' : List ℕ → A) (line line' : ℕ → List ℕ) (n i : ℕ)
    → ((j : ℕ) → i ≤ j → j < i + n → says (line j) ≡ says' (line' j))
    → each_line_of says line n i ≡ each_line_of says' line' n i
unfolding each_line_of
each_same says says' line line' zero i h = refl
each_same says says' line line' (suc n) i h =
    rw (h i (omega arith) (omega arith), each_same says says' line line' n (suc i) (λ j l u. h j (omega arith) (omega arith)))

pub each_length : {A : Type 0} (says : List ℕ → A) (line : ℕ → List ℕ) (n i : ℕ) → length (each_line_of says line n i) ≡ n
unfolding each_line_of
each_length says line zero i = refl
each_length says line (suc n) i = ap suc (each_length says line n (suc i))

-- the first n of them
pub each_take : {A : Type 0} (says : List ℕ → A) (line : ℕ → List ℕ) (c n i : ℕ) → n ≤ c → take n (each_line_of says line c i) ≡ each_line_of says line n i
unfolding each_line_of
each_take says line c zero i l = refl
each_take says line zero (suc n) i l = absurd (omega arith)
each_take says line (suc c) (suc n) i l = ap (λ rest. says (line i) ∷ rest) (each_take says line c n (suc i) (omega arith))

pub each_map : {A : Type 0} (says : List ℕ → A) (lines : List (List ℕ)) (n i : ℕ) → i + n ≤ length lines
    → each_line_of says (λ j. get_or lines j []) n i ≡ map says (take n (drop i lines))
unfolding each_line_of
each_map says lines zero i h = refl
each_map says lines (suc n) i h =
    rw (drop-cons lines i [] (omega arith), each_map says lines n (suc i) (omega arith))

-- what follows line i
abbrev pub later_fields : List (List ℕ) → ℕ → List ℕ
later_fields lines i = joined (drop (suc i) lines) ++ zeros lines

module _ (lines : List (List ℕ)) (few : length lines ≤ 84) (fit : count_all lines ≤ 4096) where
  pub line_then : (i : ℕ) → i < length lines → line_from (fields_held lines) (starts_held lines) i ≡ get_or lines i [] ++ later_fields lines i
  line_then i h =
      line_from_lem lines few fit i (omega arith) ∙ rw (first_of lines i h) (append_assoc (get_or lines i []) (joined (drop (suc i) lines)) (zeros lines))

  pub line_held : (i : ℕ) → i < length lines → line_at (fields_held lines) (starts_held lines) i ≡ get_or lines i []
  line_held i h =
      let n = count_all (take i lines) in
      let e : n + length (get_or lines i []) - n ≡ length (get_or lines i []) = omega arith in
      rw (line_then i h, starts_are lines few fit (i + 1) (omega arith), starts_are lines few fit i (omega arith), count_next lines i h, e)
      (take-append_seam (get_or lines i []) (later_fields lines i))

  -- the lines that the arrays hold are those given
  pub lines_held : held_lines (fields_held lines) (starts_held lines) (length lines) ≡ lines
  lines_held =
      each_same (λ line. line) (λ line. line) (line_at (fields_held lines) (starts_held lines)) (λ j. get_or lines j []) (length lines) 0 (λ j l u. line_held j (omega arith))
      ∙ (each_map (λ line. line) lines (length lines) 0 (omega arith) ∙ (map_same (take (length lines) lines) ∙ take-length lines))
    where
      map_same : (ls : List (List ℕ)) → map (λ line. line) ls ≡ ls
      map_same [] = refl
      map_same (l ∷ ls) = rw (map_same ls)

  pub first_held : (n : ℕ) → n ≤ length lines → held_lines (fields_held lines) (starts_held lines) n ≡ take n lines
  first_held n h =
      sym (each_take (λ line. line) (line_at (fields_held lines) (starts_held lines)) (length lines) n 0 h) ∙ ap (take n) lines_held
