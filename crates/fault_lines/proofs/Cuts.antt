-- A text's lines, cut at one of them (specs/Shows, `Cut`): a number has one cut (`cut_one`); bytes that end with byte 10 have lines of their own
-- (`lines_append`); and where a line starts, what is before it, it, and what is after it are a cut (`Start`, `start_on`).
use Prim.Native.Nat.{ℕ, suc, ◌+◌, ◌-◌, ◌<◌, ◌≤◌, min}
use mathlib.Core.Path.{◌≡◌, refl, sym, ap, ◌∙◌}
use mathlib.Core.Logic.{◌≢◌}
use mathlib.Core.Bool.{Bool, true, false, cond}
use mathlib.Core.List.{List, [], ◌∷◌, ◌++◌, map, map-append, append_assoc, nil≢cons}
use native.Mathlib.Omega.{arith}
use borrow.Author.Tests.{eqb-true, eqb-false, leb-true, leb-false}
use lib.Dec.{eqb, leb}
use lib.ListN.{length, get_or, take, drop, length-append, length-drop, length-map}
use lib.Seq.{take_all, take-add, take-suc, get_or-drop, take-length}
use Rattle.reader.specs.Line.{fields_of}
use Rattle.reader.specs.Text.{before, lines_of, last_of, fields_by_line}
use Rattle.reader.proofs.Text.{lines_first, last_append}
use Rattle.fault_lines.specs.Shows.{Cut}
use Rattle.line_faults.specs.Tests.{line_length}
use Rattle.line_faults.proofs.Turns.{end_within, lines_left}

-- ---- one cut

pub record Same (e e' : List (List ℕ)) (x x' : List ℕ) (r r' : List (List ℕ)) : Type 0 where
  pub earlier : e ≡ e'
  pub line : x ≡ x'
  pub later : r ≡ r'

split_one : (e e' : List (List ℕ)) (x x' : List ℕ) (r r' : List (List ℕ)) → length e ≡ length e' → e ++ x ∷ r ≡ e' ++ x' ∷ r' → Same e e' x x' r r'
split_one [] [] x x' r r' n h = record { earlier = refl; line = cc; later = cc }
split_one [] (a ∷ e') x x' r r' n h = absurd (omega arith)
split_one (a ∷ e) [] x x' r r' n h = absurd (omega arith)
split_one (a ∷ e) (b ∷ e') x x' r r' n h =
    let s = split_one e e' x x' r r' (omega arith) (cc) in
    let first : a ≡ b = cc in
    let rest = s.earlier in
    record { earlier = cc; line = s.line; later = s.later }

pub cut_one : {lines : List (List ℕ)} {l : ℕ} {e e' : List (List ℕ)} {x x' : List ℕ} {r r' : List (List ℕ)} → Cut lines l e x r → Cut lines l e' x' r'
    → Same e e' x x' r r'
cut_one {e = e} {e' = e'} {x = x} {x' = x'} {r = r} {r' = r'} c d =
    let n = c.counted in
    let m = d.counted in
    split_one e e' x x' r r' (omega arith) (sym c.parts ∙ d.parts)

-- the same by the lines' fields
pub cut_fields : (text : List ℕ) {l : ℕ} {e : List (List ℕ)} {x : List ℕ} {r : List (List ℕ)} → Cut (lines_of text) l e x r
    → Cut (fields_by_line text) l (map fields_of e) (fields_of x) (map fields_of r)
cut_fields text {e = e} {x = x} {r = r} c =
    record { parts = ap (map fields_of) c.parts ∙ map-append fields_of e (x ∷ r); counted = c.counted ∙ ap suc (sym (length-map e fields_of)) }

-- ---- lines one after the other

before_append : (b : ℕ) (lines more : List (List ℕ)) → lines ≢ [] → before b (lines ++ more) ≡ before b lines ++ more
before_append b [] more n = absurd (n refl)
before_append b (line ∷ lines) more n = refl

pub some_lines : (b : ℕ) (text : List ℕ) → lines_of (b ∷ text) ≢ []
some_lines b text e = nil≢cons (sym e ∙ lines_first b text)

append_by : (b : ℕ) (xs ys : List ℕ) (ends : Bool) → eqb b 10 ≡ ends → last_of b xs ≡ 10 → (last_of 10 xs ≡ 10 → lines_of (xs ++ ys) ≡ lines_of xs ++ lines_of ys)
    → cond ends ([] ∷ lines_of (xs ++ ys)) (before b (lines_of (xs ++ ys))) ≡ cond ends ([] ∷ lines_of xs) (before b (lines_of xs)) ++ lines_of ys
unfolding last_of
append_by b xs ys true e h ih = let t : b ≡ 10 = eqb-true b 10 e in ap (λ (l : List (List ℕ)). [] ∷ l) (ih (rw t at h))
append_by b [] ys false e h ih = absurd (eqb-false b 10 e h)
append_by b (c ∷ xs) ys false e h ih = ap (before b) (ih h) ∙ before_append b (lines_of (c ∷ xs)) (lines_of ys) (some_lines c xs)

pub lines_append : (xs ys : List ℕ) → last_of 10 xs ≡ 10 → lines_of (xs ++ ys) ≡ lines_of xs ++ lines_of ys
unfolding lines_of last_of
lines_append [] ys h = refl
lines_append (b ∷ xs) ys h = append_by b xs ys _ refl h (lines_append xs ys)

-- ---- the first line alone

prefix_by : (b n : ℕ) (text : List ℕ) (ends : Bool) → lines_of (take (suc n) text) ≡ take n text ∷ []
    → cond ends ([] ∷ lines_of (take (cond ends 0 (suc n)) text)) (before b (lines_of (take (cond ends 0 (suc n)) text))) ≡ take (cond ends 0 (suc n)) (b ∷ text) ∷ []
unfolding lines_of
prefix_by b n text true ih = refl
prefix_by b n text false ih = ap (before b) ih

prefix_last : (b : ℕ) (ends : Bool) → cond ends ([] ∷ lines_of (take (cond ends 0 1) [])) (before b (lines_of (take (cond ends 0 1) []))) ≡ take (cond ends 0 1) (b ∷ []) ∷ []
unfolding lines_of
prefix_last b true = refl
prefix_last b false = refl

lines_prefix : (text : List ℕ) → 0 < length text → lines_of (take (suc (line_length text)) text) ≡ take (line_length text) text ∷ []
unfolding lines_of line_length
lines_prefix [] h = absurd (omega arith)
lines_prefix (b ∷ []) h = prefix_last b (eqb b 10)
lines_prefix (b ∷ c ∷ text) h = prefix_by b (line_length (c ∷ text)) (c ∷ text) (eqb b 10) (lines_prefix (c ∷ text) (omega arith))

ten_by : (b : ℕ) (text : List ℕ) (ends : Bool) → eqb b 10 ≡ ends → (line_length text < length text → get_or text (line_length text) 0 ≡ 10)
    → cond ends 0 (suc (line_length text)) < suc (length text) → get_or (b ∷ text) (cond ends 0 (suc (line_length text))) 0 ≡ 10
ten_by b text true e ih h = eqb-true b 10 e
ten_by b text false e ih h = ih (omega arith)

-- a line that does not end with the text ends with byte 10
ends_ten : (text : List ℕ) → line_length text < length text → get_or text (line_length text) 0 ≡ 10
unfolding line_length
ends_ten [] h = absurd (omega arith)
ends_ten (b ∷ text) h = ten_by b text _ refl (ends_ten text) h

take_min : (k : ℕ) (l : List ℕ) → take (min k (length l)) l ≡ take k l
take_min k l = go (leb k (length l)) refl
  where
    go : (b : Bool) → leb k (length l) ≡ b → take (min k (length l)) l ≡ take k l
    go true e = let h = leb-true k (length l) e in let m : min k (length l) ≡ k = omega arith in rw m
    go false e = let h = leb-false k (length l) e in let m : min k (length l) ≡ length l = omega arith in rw (m, take-length l) (sym (take_all k l (omega arith)))

-- ---- where a line starts

pub record Start (text : List ℕ) (at l : ℕ) : Type 0 where
  pub within : at ≤ length text
  pub ended : at < length text → last_of 10 (take at text) ≡ 10
  pub lines : lines_of (take at text) ++ lines_of (drop at text) ≡ lines_of text
  pub counted : l ≡ suc (length (lines_of (take at text)))
  pub few : l ≤ suc at

pub start_first : (text : List ℕ) → Start text 0 1
unfolding lines_of last_of
start_first text = record { within = omega arith; ended = λ _. refl; lines = refl; counted = refl; few = omega arith }

-- there are no lines after the end
pub start_last : (text : List ℕ) (at l : ℕ) → Start text at l → length text ≤ at → l ≡ suc (length (lines_of text))
start_last text at l s h = s.counted ∙ rw (take_all at text h)

module _ (text : List ℕ) (at l end : ℕ) (s : Start text at l) (h : at < length text) (ends : end ≡ at + line_length (drop at text)) where
  abbrev line : List ℕ
  line = take (end - at) (drop at text)

  abbrev to : ℕ
  to = min (suc end) (length text)

  abbrev later : List (List ℕ)
  later = lines_of (drop to text)

  pub start_cut : Cut (lines_of text) l (lines_of (take at text)) line later
  start_cut = record { parts = sym s.lines ∙ ap (λ (x : List (List ℕ)). lines_of (take at text) ++ x) (lines_left text at end h ends); counted = s.counted }

  taken : take to text ≡ take at text ++ take (suc (line_length (drop at text))) (drop at text)
  taken =
      let m : suc end ≡ at + suc (line_length (drop at text)) = omega arith in
      take_min (suc end) text ∙ rw m (take-add at (suc (line_length (drop at text))) text)

  lines_to : lines_of (take to text) ≡ lines_of (take at text) ++ (line ∷ [])
  lines_to =
      let n : end - at ≡ line_length (drop at text) = omega arith in
      let d = length-drop at text in
      ap lines_of taken ∙ (lines_append (take at text) _ (s.ended h) ∙ rw (lines_prefix (drop at text) (omega arith), n))

  -- the byte after it
  pub byte_after : end < length text → get_or text end 0 ≡ 10
  byte_after b =
      let d = length-drop at text in
      let e : get_or (drop at text) (line_length (drop at text)) 0 ≡ 10 = ends_ten (drop at text) (omega arith) in
      rw ends (sym (get_or-drop at text (line_length (drop at text)) 0) ∙ e)

  last_to : to < length text → last_of 10 (take to text) ≡ 10
  unfolding last_of
  last_to b =
      let m : to ≡ suc end = omega arith in
      let t : take (suc end) text ≡ take end text ++ (get_or text end 0 ∷ []) = take-suc text end 0 (omega arith) in
      rw (m, t, last_append (take end text) 10 (get_or text end 0) []) (byte_after (omega arith))

  pub start_on : Start text to (l + 1)
  start_on =
      let w = end_within text at end h ends in
      let c = s.counted in
      let f = s.few in
      let g : at < to = omega arith in
      record {
        within = omega arith;
        ended = last_to;
        lines = rw (lines_to, append_assoc (lines_of (take at text)) (line ∷ []) later) (sym start_cut.parts);
        counted = rw (lines_to, length-append (lines_of (take at text)) (line ∷ [])) (omega arith);
        few = omega arith;
      }
