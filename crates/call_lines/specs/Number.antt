-- A number as a line says it: "decimal, 1 to 20 digits, up to the largest u64" (`IsNumber`). `number_of` finds the number of digits; that
-- it does is proved in proofs/Digits. `decimal_of` writes a number without zeros in front.
use Rattle.std.specs.Prelude.{ℕ, zero, suc, ◌+◌, ◌*◌, ◌/◌, ◌%◌, ◌<◌, ◌≤◌, ◌≡◌, Bool, true, cond, not, ◌&&◌, List, [], ◌∷◌, ◌++◌, None, Some, ltb, length}
use Rattle.columns.specs.Columns.{digit_of, shown_after}
use Rattle.std.specs.declared.option.Option.{Option}

-- a digit is a byte from 48 to 57
abbrev pub IsDigit : ℕ → Type 0
IsDigit b = (48 ≤ b) × (b ≤ 57)

pub data Digits : List ℕ → Type 0 where
  none : Digits []
  more : {b : ℕ} {bytes : List ℕ} → IsDigit b → Digits bytes → Digits (b ∷ bytes)

-- these digits say the number n
pub record IsNumber (digits : List ℕ) (n : ℕ) : Type 0 where
  pub some : 1 ≤ length digits
  pub few : length digits ≤ 20
  pub each : Digits digits
  pub value : shown_after 0 digits ≡ n
  pub fits : n < 18446744073709551616

-- ---- as tests

abbrev pub is_a_digit : ℕ → Bool
is_a_digit b = not (ltb b 48) && not (ltb 57 b)

unfoldable pub only_digits : List ℕ → Bool
only_digits [] = true
only_digits (b ∷ bytes) = is_a_digit b && only_digits bytes

-- a number that fits, or none
abbrev pub fitting : Bool → ℕ → Option ℕ
fitting digits n = cond (digits && ltb n 18446744073709551616) (Some n) None

-- the number with one more digit at its end
unfoldable pub with_digit : ℕ → ℕ → Option ℕ
with_digit n b = fitting (is_a_digit b) (n * 10 + digit_of b)

-- the number that digits say after the number n
unfoldable pub number_from : ℕ → List ℕ → Option ℕ
number_from n digits = fitting (only_digits digits) (shown_after n digits)

unfoldable pub number_of : List ℕ → Option ℕ
number_of digits = cond (ltb 0 (length digits) && ltb (length digits) 21) (number_from 0 digits) None

-- ---- a number in decimal

-- in at most so many digits
unfoldable pub decimal_in : ℕ → ℕ → List ℕ
decimal_in zero n = []
decimal_in (suc k) n = cond (ltb n 10) ((48 + n) ∷ []) (decimal_in k (n / 10) ++ ((48 + n % 10) ∷ []))

unfoldable pub decimal_of : ℕ → List ℕ
decimal_of n = decimal_in 20 n
