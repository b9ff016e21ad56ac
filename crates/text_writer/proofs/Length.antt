-- How many bytes lines are as a text, and the turns of the loop that adds these up.
use mathlib.Core.Path.{◌≡◌, refl, ◌∙◌}
use mathlib.Core.List.{List, ◌∷◌}
use Prim.Native.Nat.{ℕ, zero, suc, ◌+◌, ◌-◌, ◌≤◌, ◌<◌}
use native.Mathlib.Nat.{zero-add}
use native.Mathlib.Omega.{arith}
use native.Mathlib.Numerals.{add-one}
use lib.ListN.{length, get_or, drop, length-take, length-drop, length-append}
use Rattle.reader.specs.Line.{written}
use Rattle.reader.specs.Text.{text_of}
use Rattle.reader.proofs.Text.{length_written}
use Rattle.design.specs.Loaded.{line_at, each_line_of, held_lines}
use Rattle.text_writer.specs.Length.{fields_from, between, line_bytes, bytes_from, bytes_in}

-- ---- the text

module _ (f : List ℕ) (all : length f ≡ 4096) where
  pub fields_length : (from to : ℕ) → length (fields_from f from to) ≡ between from to
  fields_length from to = rw (length-take (to - from) (drop from f), length-drop from f, all) (omega arith)

  lines_length : (s : List ℕ) (n i : ℕ) → length (text_of (each_line_of (λ line. line) (line_at f s) n i)) ≡ bytes_from s n i
  unfolding text_of each_line_of bytes_from
  lines_length s zero i = refl
  lines_length s (suc n) i =
      let line = line_at f s i in
      let later = text_of (each_line_of (λ line. line) (line_at f s) n (suc i)) in
      let h = lines_length s n (suc i) in
      rw (length-append (written line) (10 ∷ later), length_written line, fields_length (get_or s i 0) (get_or s (i + 1) 0)) (omega arith)

  pub text_length : (s : List ℕ) (n : ℕ) → length (text_of (held_lines f s n)) ≡ bytes_in s n
  text_length s n = lines_length s n 0

-- ---- adding up: what is counted and what is still to be counted give the whole

module _ (s : List ℕ) (n : ℕ) where
  pub bytes_begin : 0 + bytes_from s (n - 0) 0 ≡ bytes_in s n
  bytes_begin = let e : n - 0 ≡ n = omega arith in rw e (zero-add _)

  bytes_on : (i : ℕ) → i < n → bytes_from s (n - i) i ≡ line_bytes (get_or s i 0) (get_or s (i + 1) 0) + bytes_from s (n - (i + 1)) (i + 1)
  unfolding bytes_from
  bytes_on i l = let e : n - i ≡ suc (n - (i + 1)) = omega arith in rw (e, add-one i)

  module _ (i bytes from to : ℕ) (l : i < n) (ef : from ≡ get_or s i 0) (et : to ≡ get_or s (i + 1) 0)
      (inv : bytes + bytes_from s (n - i) i ≡ bytes_in s n) where
    pub bytes_turn : (more : ℕ) → more ≡ line_bytes from to → bytes + more + bytes_from s (n - (i + 1)) (i + 1) ≡ bytes_in s n
    bytes_turn more em = omega (arith, bytes_on i l)

    -- there is room for the next line
    pub line_fits_lem : (b₀ b : List ℕ) → bytes_in s n ≤ length b₀ → length b ≡ length b₀ → bytes + line_bytes from to ≤ length b
    line_fits_lem b₀ b room same = omega (arith, bytes_on i l)

  pub bytes_end : (i bytes : ℕ) → n ≤ i → bytes + bytes_from s (n - i) i ≡ bytes_in s n → bytes ≡ bytes_in s n
  unfolding bytes_from
  bytes_end i bytes l inv = go ∙ inv
    where
      go : bytes ≡ bytes + bytes_from s (n - i) i
      go = let e : n - i ≡ 0 = omega arith in rw e (omega arith)
