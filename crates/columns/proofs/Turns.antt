-- What a turn of each loop over a field's columns keeps, and what each way out of a function gives.
use Prim.Native.Nat.{ℕ, suc, ◌+◌, ◌-◌, ◌*◌, ◌^◌, ◌<◌, ◌≤◌, min}
use mathlib.Core.Path.{◌≡◌, refl, sym, ◌∙◌, ap}
use mathlib.Core.Logic.{◌≢◌}
use mathlib.Core.Bool.{Bool, true, false, cond}
use mathlib.Core.List.{List, [], ◌∷◌}
use native.Mathlib.Omega.{arith}
use native.Mathlib.Numerals.{add-one}
use borrow.Author.Tests.{lt-ltb, le-ltb, ne_eqb, eqb-true}
use lib.Dec.{eqb, lit<, lit≤}
use lib.ListN.{length, get_or, take, drop, length-drop, drop_of_length-le}
use lib.Seq.{drop-cons, get_or-drop, get_or-take, length-take-le}
use Rattle.columns.specs.Columns.{field_of}
use Rattle.columns.specs.Scan.{blanks_of, digits_from, alone, after_blanks, scanned}
use Rattle.std.specs.Prelude.{◌==◌, Option, Some, None, Result, Ok, Err}
use Rattle.std.specs.List.{take_while}
use Rattle.std.proofs.lemmas.List.Sums.{take_while-cons}
use Rattle.std.specs.Result.{OkIff, result_ok}
use Rattle.columns.proofs.Scan.{scan_field}
use Rattle.columns.proofs.Word.{blanks_first}
use Rattle.columns.proofs.Weights.{fitting, DigitsOf, no_digits, weight_small, digit_before, IsDigit, is_digit, no_digit, unread}

-- a digit 0 with nothing behind it is read as any digit
alone_too : (b : ℕ) (none : Bool) → eqb b 48 ≡ none → digits_from 0 (b ∷ []) ≡ after_blanks (b ∷ [])
unfolding digits_from after_blanks alone
alone_too b true e = rw (eqb-true b 48 e)
alone_too b false e = rw e

-- ---- blanks

space_by : (b : ℕ) (bytes : List ℕ) (blank : Bool) → length (take_while (λ (c : ℕ). c == 32) bytes) ≡ blanks_of bytes
    → length (cond blank (b ∷ take_while (λ (c : ℕ). c == 32) bytes) []) ≡ cond blank (suc (blanks_of bytes)) 0
space_by b bytes true ih = ap suc ih
space_by b bytes false ih = refl

spaces : (bytes : List ℕ) → length (take_while (λ (c : ℕ). c == 32) bytes) ≡ blanks_of bytes
unfolding blanks_of
spaces [] = refl
spaces (b ∷ bytes) = rw (take_while-cons (λ (c : ℕ). c == 32) b bytes) (space_by b bytes (eqb b 32) (spaces bytes))

-- one after the other they are those of the first six bytes
pub blanks_counted : (part : List ℕ) (n r : ℕ) → n ≡ length (take_while (λ (b : ℕ). b == 32) part) → r ≡ min 6 n → r ≡ blanks_of (take 6 part)
blanks_counted part n r en er = er ∙ (ap (min 6) (en ∙ spaces part) ∙ sym (blanks_first 6 part))

-- ---- six columns

module _ (part : List ℕ) (long : 6 ≤ length part) where
  -- the columns from the i-th on
  column : (i : ℕ) → i < 6 → drop i (take 6 part) ≡ get_or part i 0 ∷ drop (i + 1) (take 6 part)
  column i h =
      rw (add-one i, ← get_or-take 6 part i 0 h) (drop-cons (take 6 part) i 0 (rw (length-take-le 6 part long) h))

  no_column : (i : ℕ) → 6 ≤ i → drop i (take 6 part) ≡ []
  no_column i h = drop_of_length-le (take 6 part) {i = i} (rw (length-take-le 6 part long) h)

  -- ---- digits, from the sixth column back to one

  pub digits_start : DigitsOf (drop 6 (take 6 part)) 1 0
  digits_start = rw (no_column 6 (lit≤ tt)) no_digits

  module _ (from i weight n : ℕ) (ahead : from < i) (h : i ≤ 6) (behind : DigitsOf (drop i (take 6 part)) weight n) where
    pub weight_fits : weight * 10 < 2 ^ 32
    weight_fits =
        let small = weight_small (drop i (take 6 part)) weight n behind (rw (length-drop, length-take-le 6 part long) (omega arith)) in
        omega arith

    -- a digit d in the column before: its share fits 32 bits, and so does the number with it
    module _ (d : ℕ) (read : Some d ≡ digits_from 0 (get_or part (i - 1) 0 ∷ [])) where
      digit : IsDigit (get_or part (i - 1) 0) d
      digit = is_digit (get_or part (i - 1) 0) d read

      with_digit : DigitsOf (get_or part (i - 1) 0 ∷ drop i (take 6 part)) (weight * 10) (n + d * weight)
      with_digit = rw (digit.number) (digit_before (drop i (take 6 part)) weight n behind (get_or part (i - 1) 0) digit.low digit.high)

      pub sum_fits : n + d * weight < 2 ^ 32
      sum_fits = let w = weight_fits in let s = with_digit.below in omega arith

      pub share_fits : d * weight < 2 ^ 32
      share_fits = let s = sum_fits in omega arith

      pub digit_turn : DigitsOf (drop (i - 1) (take 6 part)) (weight * 10) (n + d * weight)
      digit_turn = let e : i - 1 + 1 ≡ i = omega arith in rw (column (i - 1) (omega arith), e) with_digit

  module _ (from i : ℕ) (ahead : from < i) (h : i ≤ 6) where
    there : get_or (drop from (take 6 part)) (i - 1 - from) 0 ≡ get_or part (i - 1) 0
    there =
        let e : from + (i - 1 - from) ≡ i - 1 = omega arith in
        get_or-drop from (take 6 part) (i - 1 - from) 0 ∙ rw (e, get_or-take 6 part (i - 1) 0 (omega arith))

    pub digit_none : None ≡ digits_from 0 (get_or part (i - 1) 0 ∷ []) → None ≡ digits_from 0 (drop from (take 6 part))
    digit_none read =
        let within : i - 1 - from < length (drop from (take 6 part)) = rw (length-drop, length-take-le 6 part long) (omega arith) in
        no_digit (drop from (take 6 part)) (i - 1 - from) 0 within (rw there (unread (get_or part (i - 1) 0) read))

  module _ (from i weight n : ℕ) (behind : DigitsOf (drop i (take 6 part)) weight n) (l : from ≤ i) (g : i ≤ from) where
    all_read : fitting n ≡ digits_from 0 (drop from (take 6 part))
    all_read =
        let e : i ≡ from = omega arith in
        let z : 0 * weight + n ≡ n = omega arith in
        sym (rw (e, z) at (behind.shown 0 (lit< tt)))

    -- as the number of a field, if it is one
    pub digits_end : {E : Type 0} (r : Result ℕ E) → OkIff r (n < 65536) n → result_ok r ≡ digits_from 0 (drop from (take 6 part))
    digits_end (Ok m) h = ap Some h.1 ∙ (rw (lt-ltb n 65536 h.0) at all_read)
    digits_end (Err e) h = rw (le-ltb n 65536 (omega arith)) at all_read

  -- ---- a field: blanks, and what follows them

  scanned_at : (b : ℕ) → b ≡ blanks_of (take 6 part) → field_of (take 6 part) ≡ after_blanks (drop b (take 6 part))
  unfolding scanned
  scanned_at b e = rw (← scan_field (take 6 part) (length-take-le 6 part long), e)

  module _ (b : ℕ) (e : b ≡ blanks_of (take 6 part)) where
    pub all_blank : 6 ≤ b → None ≡ field_of (take 6 part)
    unfolding after_blanks
    all_blank h = rw (scanned_at b e, no_column b h)

    module _ (h : b < 6) where
      pub zero_leads : get_or part b 0 ≡ 48 → b ≢ 5 → None ≡ field_of (take 6 part)
      unfolding after_blanks alone
      zero_leads z l = rw (scanned_at b e, column b h, z, column (b + 1) (omega arith))

      pub digit_leads : get_or part b 0 ≢ 48 → (r : Option ℕ) → r ≡ digits_from 0 (drop b (take 6 part)) → r ≡ field_of (take 6 part)
      unfolding after_blanks
      digit_leads z r er = er ∙ rw (scanned_at b e, column b h, ne_eqb (get_or part b 0) 48 z)

    -- the last column may be any digit, 0 too
    pub last_digit : b ≡ 5 → (r : Option ℕ) → r ≡ digits_from 0 (get_or part 5 0 ∷ []) → r ≡ field_of (take 6 part)
    last_digit l r er =
        er ∙ rw (scanned_at b e, l, column 5 (lit< tt), no_column 6 (lit≤ tt)) (alone_too (get_or part 5 0) (eqb (get_or part 5 0) 48) refl)
