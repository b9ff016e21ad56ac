-- The turns of the loops that write a line field by field and lines one after the other: writing what is left, from here, gives the whole.
-- Last, what a buffer holds where the whole text fits, and where not.
use mathlib.Core.Path.{◌≡◌, refl, sym, ◌∙◌}
use mathlib.Core.List.{List, [], ◌∷◌}
use Prim.Native.Nat.{ℕ, suc, ◌+◌, ◌-◌, ◌*◌, ◌≤◌, ◌<◌}
use native.Mathlib.Omega.{arith}
use native.Mathlib.Numerals.{add-one}
use lib.ListN.{length, get_or, set}
use lib.Seq.{sets, drop-cons}
use Rattle.columns.specs.Columns.{columns_of}
use Rattle.reader.specs.Line.{written}
use Rattle.reader.specs.Text.{text_of}
use Rattle.writer.specs.Put.{put, put_length}
use Rattle.writer.proofs.Bytes.{field_kept, none_put, none_kept, all_put, all_kept}
use Rattle.design.specs.Loaded.{line_at, each_line_of, held_lines}
use Rattle.text_writer.specs.Length.{fields_from, line_text, between, line_bytes, bytes_in}
use Rattle.text_writer.proofs.Length.{fields_length, text_length}

-- the place after six columns
abbrev after_field : ℕ → ℕ
after_field at = suc (suc (suc (suc (suc (suc at)))))

-- ---- a line: k fields are written

module _ (f : List ℕ) (all : length f ≡ 4096) (i to : ℕ) where
  fields_on : i < to → i < 4096 → fields_from f i to ≡ get_or f i 0 ∷ fields_from f (i + 1) to
  fields_on l m = let e : to - i ≡ suc (to - (i + 1)) = omega arith in rw (e, add-one i, drop-cons f i 0 (omega arith))

  fields_none : between i to ≡ 0 → fields_from f i to ≡ []
  fields_none z = none (fields_from f i to) (fields_length f all i to ∙ z)
    where
      none : (l : List ℕ) → length l ≡ 0 → l ≡ []
      none [] e = refl
      none (x ∷ l) e = absurd (omega arith)

module _ (b₀ : List ℕ) (at : ℕ) (f : List ℕ) (from to : ℕ) where
  pub line_begin : sets b₀ (at + 0) (line_text f (from + 0) to) ≡ sets b₀ at (line_text f from to)
  line_begin = let e : at + 0 ≡ at = omega arith in let z : from + 0 ≡ from = omega arith in rw (e, z)

  module _ (room : at + line_bytes from to ≤ length b₀) (all : length f ≡ 4096) (count : ℕ) (ec : count ≡ between from to)
      (b : List ℕ) (k : ℕ) (few : k ≤ count) (same : length b ≡ length b₀)
      (inv : sets b (at + 6 * k) (line_text f (from + k) to) ≡ sets b₀ at (line_text f from to)) where
    module _ (l : k < count) (n : ℕ) (en : n ≡ get_or f (from + k) 0)
        (after : List ℕ) (ea : after ≡ put b (at + 6 * k) (columns_of n)) where
      field_set : after ≡ sets b (at + 6 * k) (columns_of n)
      field_set = ea ∙ sym (field_kept b (at + 6 * k) n (omega arith) (omega arith) (sets b (at + 6 * k) (columns_of n)) refl)

      pub line_turn : sets after (at + 6 * (k + 1)) (line_text f (from + (k + 1)) to) ≡ sets b₀ at (line_text f from to)
      unfolding columns_of text_of written
      line_turn =
          let e : at + 6 * (k + 1) ≡ after_field (at + 6 * k) = omega arith in
          let z : from + (k + 1) ≡ from + k + 1 = omega arith in
          rw (field_set, e, z) (rw (fields_on f all (from + k) to (omega arith) (omega arith), ← en) at inv)

    pub line_end : count ≤ k → set b (at + 6 * count) 10 ≡ sets b₀ at (line_text f from to)
    unfolding text_of written
    line_end l =
        let e : count ≡ k = omega arith in
        rw e (rw (fields_none f all (from + k) to (omega arith)) at inv)

-- ---- lines: i of them are written

-- a line, and the others after it
text_on : (fields : List ℕ) (lines : List (List ℕ)) (b : List ℕ) (at : ℕ)
    → sets (sets b at (text_of (fields ∷ []))) (at + (6 * length fields + 1)) (text_of lines) ≡ sets b at (text_of (fields ∷ lines))
unfolding columns_of text_of written
text_on [] lines b at = let e : at + 1 ≡ suc at = omega arith in rw e
text_on (n ∷ fields) lines b at =
    let e : at + (6 * suc (length fields) + 1) ≡ after_field at + (6 * length fields + 1) = omega arith in
    rw e (text_on fields lines (sets b at (columns_of n)) (after_field at))

-- the lines left
abbrev pub lines_to_come : List ℕ → List ℕ → ℕ → ℕ → List (List ℕ)
lines_to_come f s n i = each_line_of (λ line. line) (line_at f s) (n - i) i

module _ (b₀ f s : List ℕ) (n : ℕ) where
  pub lines_begin : sets b₀ 0 (text_of (lines_to_come f s n 0)) ≡ sets b₀ 0 (text_of (held_lines f s n))
  lines_begin = let e : n - 0 ≡ n = omega arith in rw e

  module _ (b : List ℕ) (at i : ℕ) (inv : sets b at (text_of (lines_to_come f s n i)) ≡ sets b₀ 0 (text_of (held_lines f s n))) where
    pub lines_turn : length f ≡ 4096 → i < n → (from to : ℕ) → from ≡ get_or s i 0 → to ≡ get_or s (i + 1) 0
        → (more : ℕ) → more ≡ line_bytes from to → (after : List ℕ) → after ≡ sets b at (line_text f from to)
        → sets after (at + more) (text_of (lines_to_come f s n (i + 1))) ≡ sets b₀ 0 (text_of (held_lines f s n))
    unfolding each_line_of
    lines_turn all l from to ef et more em after ea =
        let e : n - i ≡ suc (n - (i + 1)) = omega arith in
        let m : more ≡ 6 * length (fields_from f from to) + 1 = em ∙ rw (fields_length f all from to) in
        rw (ea, m, text_on (fields_from f from to) (lines_to_come f s n (i + 1)) b at, ef, et, add-one i) (rw (e, add-one i) at inv)

    pub lines_end : n ≤ i → b ≡ sets b₀ 0 (text_of (held_lines f s n))
    unfolding each_line_of text_of
    lines_end l = let e : n - i ≡ 0 = omega arith in rw e at inv

-- ---- the whole text fits, or nothing is written

module _ (b f s : List ℕ) (n : ℕ) (all : length f ≡ 4096) (bytes : ℕ) (eb : bytes ≡ bytes_in s n) where
  bytes_are : length (text_of (held_lines f s n)) ≡ bytes
  bytes_are = text_length f all s n ∙ sym eb

  pub text_none : length b < bytes → 0 ≡ put_length b 0 (text_of (held_lines f s n))
  text_none h = none_put b 0 (text_of (held_lines f s n)) bytes bytes_are (omega arith)

  pub text_none_kept : length b < bytes → b ≡ put b 0 (text_of (held_lines f s n))
  text_none_kept h = none_kept b 0 (text_of (held_lines f s n)) bytes bytes_are (omega arith)

  pub text_put : bytes ≤ length b → bytes ≡ put_length b 0 (text_of (held_lines f s n))
  text_put h = all_put b 0 (text_of (held_lines f s n)) bytes bytes_are (omega arith)

  pub text_kept : bytes ≤ length b → (after : List ℕ) → after ≡ sets b 0 (text_of (held_lines f s n))
      → after ≡ put b 0 (text_of (held_lines f s n))
  text_kept h = all_kept b 0 (text_of (held_lines f s n)) bytes bytes_are (omega arith)
