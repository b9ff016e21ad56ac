-- What a turn of each loop keeps: what is still to be done, from here, gives the whole.
use Prim.Native.Nat.{ℕ, suc, ◌+◌, ◌-◌, ◌<◌, ◌≤◌, min, max}
use mathlib.Core.Path.{◌≡◌, refl, sym, ap, ◌∙◌}
use mathlib.Core.Logic.{◌≢◌}
use mathlib.Core.Bool.{Bool, true, false, cond}
use mathlib.Core.List.{List, [], ◌∷◌}
use native.Mathlib.Omega.{arith}
use native.Mathlib.Numerals.{add-one}
use borrow.Author.Tests.{eq-eqb, ne_eqb, leb-true, leb-false}
use lib.Dec.{eqb, leb}
use lib.ListN.{length, get_or, take, drop, length-drop, drop_of_length-le}
use lib.Seq.{drop-cons, drop-drop, drop-length, length-take-le}
use Rattle.reader.specs.Line.{fields_of}
use Rattle.reader.specs.Text.{lines_of, fields_by_line}
use Rattle.reader.proofs.Text.{first_line, lines_first}
use Rattle.line_faults.specs.Tests.{line_length, gathered}

-- ---- the end of a line

module _ (text : List ℕ) (at i : ℕ) (inv : i + line_length (drop i text) ≡ at + line_length (drop at text)) where
  pub end_here : i < length text → get_or text i 0 ≡ 10 → i ≡ at + line_length (drop at text)
  unfolding line_length
  end_here h e = let m = rw (drop-cons text i 0 h, eq-eqb (get_or text i 0) 10 e) at inv in omega arith

  pub end_on : i < length text → get_or text i 0 ≢ 10 → i + 1 + line_length (drop (i + 1) text) ≡ at + line_length (drop at text)
  unfolding line_length
  end_on h e = let m = rw (drop-cons text i 0 h, ne_eqb (get_or text i 0) 10 e) at inv in rw (add-one i) (omega arith)

  pub end_last : length text ≤ i → i ≡ at + line_length (drop at text)
  unfolding line_length
  end_last h = let m = rw (drop_of_length-le text {i = i} h) at inv in omega arith

  -- at the text's end, or where the line starts if that is past it
  pub end_most : length text ≤ i → (at ≤ length text → i ≤ length text) → (r : ℕ) → r ≡ max at (length text) → r ≡ at + line_length (drop at text)
  unfolding line_length
  end_most h within r er = er ∙ go (leb at (length text)) refl
    where
      go : (b : Bool) → leb at (length text) ≡ b → max at (length text) ≡ at + line_length (drop at text)
      go true e = let l = leb-true at (length text) e in let w = within l in let s = end_last h in omega arith
      go false e =
          let l = leb-false at (length text) e in
          let z : at + 0 ≡ at = omega arith in
          rw (drop_of_length-le text {i = at} (omega arith), z) (omega arith)

-- ---- the lines of what is left of a text

cut_by : (b : ℕ) (text : List ℕ) (ends : Bool) → first_line text ≡ take (line_length text) text
    → cond ends [] (b ∷ first_line text) ≡ take (cond ends 0 (suc (line_length text))) (b ∷ text)
cut_by b text true ih = refl
cut_by b text false ih = rw ih

pub first_is : (text : List ℕ) → first_line text ≡ take (line_length text) text
unfolding first_line line_length
first_is [] = refl
first_is (b ∷ text) = cut_by b text (eqb b 10) (first_is text)

within_by : (ends : Bool) (n m : ℕ) → n ≤ m → cond ends 0 (suc n) ≤ suc m
within_by true n m h = omega arith
within_by false n m h = omega arith

pub line_within : (text : List ℕ) → line_length text ≤ length text
unfolding line_length
line_within [] = omega arith
line_within (b ∷ text) = within_by (eqb b 10) (line_length text) (length text) (line_within text)

-- past the end there is nothing either way
drop_min : (k : ℕ) (l : List ℕ) → drop (min k (length l)) l ≡ drop k l
drop_min k l = go (leb k (length l)) refl
  where
    go : (b : Bool) → leb k (length l) ≡ b → drop (min k (length l)) l ≡ drop k l
    go true e = let h = leb-true k (length l) e in let m : min k (length l) ≡ k = omega arith in rw m
    go false e = let h = leb-false k (length l) e in let m : min k (length l) ≡ length l = omega arith in rw (m, drop-length l) (sym (drop_of_length-le l {i = k} (omega arith)))

lines_here : (text : List ℕ) → 0 < length text → lines_of text ≡ take (line_length text) text ∷ lines_of (drop (suc (line_length text)) text)
lines_here [] h = absurd (omega arith)
lines_here (b ∷ text) h =
    let f = first_is (b ∷ text) in
    let n : length (first_line (b ∷ text)) ≡ line_length (b ∷ text) = ap length f ∙ length-take-le (line_length (b ∷ text)) (b ∷ text) (line_within (b ∷ text)) in
    lines_first b text ∙ rw (n, f)

module _ (text : List ℕ) (at end : ℕ) (h : at < length text) (ends : end ≡ at + line_length (drop at text)) where
  pub end_from : at ≤ end
  end_from = omega arith

  pub end_within : end ≤ length text
  end_within = omega (arith, line_within (drop at text), length-drop at text)

  pub lines_left : lines_of (drop at text) ≡ take (end - at) (drop at text) ∷ lines_of (drop (min (suc end) (length text)) text)
  lines_left =
      let l = length-drop at text in
      let n : end - at ≡ line_length (drop at text) = omega arith in
      let m : at + suc (line_length (drop at text)) ≡ suc end = omega arith in
      lines_here (drop at text) (omega arith) ∙ rw (n, drop_min (suc end) text, drop-drop (suc (line_length (drop at text))) at text, m)

  pub gets_on : (to : ℕ) → to ≡ min (suc end) (length text) → length text - to < length text - at
  gets_on to et = let w = end_within in omega arith

-- ---- what is gathered

module _ (text : List ℕ) (by : ℕ → List ℕ → ℕ) (start at n : ℕ) (inv : gathered by n (fields_by_line (drop at text)) ≡ gathered by start (fields_by_line text)) where
  pub gather_end : length text ≤ at → n ≡ gathered by start (fields_by_line text)
  unfolding gathered lines_of
  gather_end h = rw (drop_of_length-le text {i = at} h) at inv

  pub gather_on : at < length text → (end : ℕ) → end ≡ at + line_length (drop at text) → (m : ℕ) → m ≡ by n (fields_of (take (end - at) (drop at text)))
      → (to : ℕ) → to ≡ min (suc end) (length text) → gathered by m (fields_by_line (drop to text)) ≡ gathered by start (fields_by_line text)
  unfolding gathered
  gather_on h end ends m em to et = rw (em, et) (rw (lines_left text at end h ends) at inv)
