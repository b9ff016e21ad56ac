-- A field as blanks and then digits, from column to column: what the code is proved against. That this is what `field_of` says is
-- proved in proofs/Scan; no reader of 01 needs this file.
use Rattle.std.specs.Prelude.{ℕ, suc, ◌+◌, ◌-◌, ◌*◌, cond, List, [], ◌∷◌, eqb, ltb, drop, Option, Some, None}

-- the blanks that begin columns
unfoldable pub blanks_of : List ℕ → ℕ
blanks_of [] = 0
blanks_of (b ∷ columns) = cond (eqb b 32) (suc (blanks_of columns)) 0

-- digits after the number n, with which the number stays below 65,536
unfoldable pub digits_from : ℕ → List ℕ → Option ℕ
digits_from n [] = Some n
digits_from n (b ∷ columns) =
    cond (ltb b 48) None
    (cond (ltb 57 b) None
    (cond (ltb (n * 10 + (b - 48)) 65536) (digits_from (n * 10 + (b - 48)) columns) None))

-- nothing may follow a first digit 0
unfoldable pub alone : List ℕ → Option ℕ
alone [] = Some 0
alone (b ∷ columns) = None

unfoldable pub after_blanks : List ℕ → Option ℕ
after_blanks [] = None
after_blanks (b ∷ columns) = cond (eqb b 48) (alone columns) (digits_from 0 (b ∷ columns))

unfoldable pub scanned : List ℕ → Option ℕ
scanned columns = after_blanks (drop (blanks_of columns) columns)
