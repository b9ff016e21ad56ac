-- Where a line starts in a text without faults 1 to 3: at its k-th line (`AtLine`). The fields that stand there are that line's
-- (`part_fields`, `line_fields`), and the next line starts after them and a byte 10 (`at_next`).
use Prim.Native.Nat.{ℕ, zero, suc, ◌+◌, ◌-◌, ◌*◌, ◌≤◌, ◌<◌}
use mathlib.Core.Path.{◌≡◌, refl, sym, ap, ◌∙◌}
use mathlib.Core.List.{List, [], ◌∷◌, ◌++◌, append-nil}
use native.Mathlib.Omega.{arith}
use native.Mathlib.Numerals.{add-one}
use lib.ListN.{length, get_or, take, drop, length-append, length-drop, drop_of_length-le}
use lib.Seq.{drop-drop, drop-cons, drop-append-add, take_at}
use Rattle.reader.specs.Line.{written, Each16, fields_of}
use Rattle.reader.specs.Text.{fields_by_line, text_of, Lines, none, more, columns_fault}
use Rattle.reader.proofs.Faults.{columns_free, fields_of_line}
use Rattle.reader.proofs.Written.{text_written, text_lines_good}
use Rattle.reader.proofs.Text.{length_written, line_end_none}
use Rattle.reader.proofs.Line.{part_all, fields_written}

-- the bytes from `at` on are the lines from the k-th on
pub record AtLine (text : List ℕ) (at k : ℕ) : Type 0 where
  pub free : columns_fault text ≡ 0
  pub stored : k ≤ length (fields_by_line text)
  pub left : drop at text ≡ text_of (drop k (fields_by_line text))

pub at_first : (text : List ℕ) → columns_fault text ≡ 0 → AtLine text 0 0
at_first text free = record { free = free; stored = omega arith; left = sym (text_written text (columns_free text free).second) }

-- of lines that a text has
each_good : {lines : List (List ℕ)} (k : ℕ) → k < length lines → Lines lines → Each16 (get_or lines k [])
each_good k h none = absurd (omega arith)
each_good zero h (more each some later) = each
each_good (suc k) h (more each some later) = each_good k (omega arith) later

nil_text : (lines : List (List ℕ)) → text_of lines ≡ [] → length lines ≡ 0
unfolding text_of
nil_text [] e = refl
nil_text (line ∷ lines) e =
    let l : length (written line) + suc (length (text_of lines)) ≡ 0 = sym (length-append (written line) (10 ∷ text_of lines)) ∙ ap length e in
    absurd (omega arith)

module _ (text : List ℕ) (at k : ℕ) (p : AtLine text at k) where
  abbrev lines : List (List ℕ)
  lines = fields_by_line text

  -- at the end of the text there is no line more
  pub at_end : length text ≤ at → drop k lines ≡ []
  at_end h =
      let e : text_of (drop k lines) ≡ [] = sym p.left ∙ drop_of_length-le text h in
      let z = nil_text (drop k lines) e in
      let l = length-drop k lines in
      drop_of_length-le lines {i = k} (omega arith)

  module _ (inside : at < length text) where
    -- and before the end there is
    pub more_lines : k < length lines
    unfolding text_of
    more_lines = go (drop k lines) refl
      where
        go : (ls : List (List ℕ)) → drop k lines ≡ ls → k < length lines
        go [] e =
            let l = length-drop at text in
            let z : length (drop at text) ≡ 0 = ap length p.left ∙ ap (λ (x : List (List ℕ)). length (text_of x)) e in
            absurd (omega arith)
        go (line ∷ ls) e = let l = length-drop k lines in let n : length (drop k lines) ≡ suc (length ls) = ap length e in omega arith

    abbrev line : List ℕ
    line = get_or lines k []

    abbrev later_lines : List (List ℕ)
    later_lines = drop (suc k) lines

    pub these : drop k lines ≡ line ∷ later_lines
    these = drop-cons lines k [] more_lines

    bytes : drop at text ≡ written line ++ 10 ∷ text_of later_lines
    unfolding text_of
    bytes = p.left ∙ ap text_of these

    good : Each16 line
    good = each_good k more_lines (text_lines_good text (columns_free text p.free).second)

    -- the fields that stand here are the line's
    pub part_fields : fields_of (take (length text - at) (drop at text)) ≡ line
    part_fields =
        ap fields_of (part_all text at ∙ bytes) ∙ (fields_written line (10 ∷ text_of later_lines) good ∙ rw (line_end_none (text_of later_lines)) (append-nil line))

    module _ (n : ℕ) (en : n ≡ length (fields_of (take (length text - at) (drop at text)))) where
      long : length (written line) ≡ 6 * n
      long = length_written line ∙ ap (λ j. 6 * j) (sym (en ∙ ap length part_fields))

      -- and those of its bytes alone
      pub line_fields : fields_of (take (at + 6 * n - at) (drop at text)) ≡ line
      line_fields =
          let e : at + 6 * n - at ≡ 6 * n = omega arith in
          rw (e, bytes, take_at (written line) (10 ∷ text_of later_lines) (6 * n) long) (fields_of_line line good)

      next_bytes : drop (at + 6 * n + 1) text ≡ text_of later_lines
      next_bytes =
          let e : at + (6 * n + 1) ≡ at + 6 * n + 1 = omega arith in
          let m : length (written line) + 1 ≡ 6 * n + 1 = let l = long in omega arith in
          ap (λ (j : ℕ). drop j text) (sym e)
          ∙ (sym (drop-drop (6 * n + 1) at text)
          ∙ (ap (drop (6 * n + 1)) bytes ∙ (ap (λ (j : ℕ). drop j (written line ++ 10 ∷ text_of later_lines)) (sym m) ∙ drop-append-add (written line) (10 ∷ text_of later_lines) 1)))

      pub next_within : at + 6 * n + 1 ≤ length text
      next_within =
          let l : length (drop at text) ≡ length (written line) + suc (length (text_of later_lines)) = ap length bytes ∙ length-append (written line) (10 ∷ text_of later_lines) in
          let d = length-drop at text in
          let w = long in
          omega arith

      -- the next line
      pub at_next : AtLine text (at + 6 * n + 1) (k + 1)
      at_next = let m = more_lines in rw (add-one k) (record { free = p.free; stored = m; left = next_bytes })
