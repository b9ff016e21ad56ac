-- What six columns are a field (01, "Design text").
-- "A field is a decimal number from 0 to 65,535, right-justified, blanks (byte 32) before it, no leading zero, 0 written as one
-- digit." So a field is the one way of writing a number, and that way is `columns_of`; six columns are the field of a number if they
-- are what it is written as (`IsField`). `field_of` finds that number. That it does is proved in proofs/Columns.
use Rattle.std.specs.Prelude.{ℕ, ◌+◌, ◌-◌, ◌*◌, ◌/◌, ◌%◌, ◌<◌, ◌≡◌, Bool, true, false, cond, ◌&&◌, List, [], ◌∷◌, eqb, ltb, Option, Some, None}

-- the byte in the column of a weight: the digit, or a blank before the first digit
unfoldable pub column_of : ℕ → ℕ → ℕ
column_of n weight = cond (ltb n weight) 32 (48 + n / weight % 10)

-- a number below 1,000,000 in six columns; the last one has a digit always
unfoldable pub columns_of : ℕ → List ℕ
columns_of n =
    column_of n 100000 ∷ column_of n 10000 ∷ column_of n 1000 ∷ column_of n 100 ∷ column_of n 10 ∷ (48 + n % 10) ∷ []

-- these columns are the field of the number n
pub record IsField (columns : List ℕ) (n : ℕ) : Type 0 where
  pub small : n < 65536
  pub written : columns ≡ columns_of n

-- ---- which number columns are a field of

-- a digit's number; a blank counts 0, and so does any other byte
unfoldable pub digit_of : ℕ → ℕ
digit_of b = cond (ltb b 48) 0 (cond (ltb 57 b) 0 (b - 48))

-- the number that columns show after the number n: the only one that they can be the field of
unfoldable pub shown_after : ℕ → List ℕ → ℕ
shown_after n [] = n
shown_after n (b ∷ columns) = shown_after (n * 10 + digit_of b) columns

-- two lists of bytes are the same
unfoldable pub bytes_agree : List ℕ → List ℕ → Bool
bytes_agree [] [] = true
bytes_agree [] (c ∷ cs) = false
bytes_agree (b ∷ bs) [] = false
bytes_agree (b ∷ bs) (c ∷ cs) = eqb b c && bytes_agree bs cs

-- the number whose field the columns are, if they are one
unfoldable pub field_of : List ℕ → Option ℕ
field_of columns =
    let n = shown_after 0 columns in
    cond (ltb n 65536 && bytes_agree columns (columns_of n)) (Some n) None
