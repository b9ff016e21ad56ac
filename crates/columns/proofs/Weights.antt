-- Digits read from the last column back: columns are the digits of a number, each times its weight (`DigitsOf`), and one more before them
-- adds its own; a column that is no digit spoils them all.
use Prim.Native.Nat.{ℕ, zero, suc, ◌+◌, ◌-◌, ◌*◌, ◌^◌, ◌<◌, ◌≤◌}
use mathlib.Core.Path.{◌≡◌, refl, sym, ◌∙◌}
use mathlib.Core.Bool.{Bool, true, false, cond}
use mathlib.Core.Logic.{◌⊎◌, inl, inr}
use mathlib.Core.List.{List, [], ◌∷◌}
use native.Mathlib.Omega.{arith}
use native.Mathlib.Nat.{pow-suc, add-mul, mul_assoc, mul_comm, le-mul_of_pos_right, mul-le-mul_right, pow-le-pow_right}
use borrow.Author.Tests.{lt-ltb, le-ltb, ltb-true, ltb-false}
use lib.Dec.{ltb, lit<}
use lib.ListN.{length, get_or}
use Rattle.columns.specs.Scan.{digits_from}
use Rattle.std.specs.Prelude.{Option, Some, None}

-- a number, if a field can be of it
abbrev pub fitting : ℕ → Option ℕ
fitting n = cond (ltb n 65536) (Some n) None

-- these columns are the digits of n: after a number m they show m times their weight, and n
pub record DigitsOf (columns : List ℕ) (weight n : ℕ) : Type 0 where
  weighs : weight ≡ 10 ^ length columns
  pub below : n < weight
  pub shown : (m : ℕ) → m < 65536 → digits_from m columns ≡ fitting (m * weight + n)

pub no_digits : DigitsOf [] 1 0
unfolding digits_from
no_digits =
    record {
      weighs = refl;
      below = lit< tt;
      shown = λ m h. let e : m * 1 + 0 ≡ m = omega arith in rw (e, lt-ltb m 65536 h);
    }

-- a digit before them
module _ (columns : List ℕ) (weight n : ℕ) (behind : DigitsOf columns weight n) where
  pub weight_small : length columns < 6 → weight ≤ 100000
  weight_small h = rw behind.weighs (pow-le-pow_right (lit< tt) {j = 5} (omega arith))

  module _ (b : ℕ) (low : 48 ≤ b) (high : b ≤ 57) where
    -- what they show after the number m and the digit is at least what these two are
    after : (m : ℕ) (small : Bool) → ltb (m * 10 + (b - 48)) 65536 ≡ small
        → cond small (digits_from (m * 10 + (b - 48)) columns) None ≡ fitting ((m * 10 + (b - 48)) * weight + n)
    after m true e = behind.shown (m * 10 + (b - 48)) (ltb-true _ _ e)
    after m false e =
        let large = ltb-false (m * 10 + (b - 48)) 65536 e in
        let p = behind.below in
        let more : m * 10 + (b - 48) ≤ (m * 10 + (b - 48)) * weight = le-mul_of_pos_right (m * 10 + (b - 48)) (omega arith) in
        rw (le-ltb ((m * 10 + (b - 48)) * weight + n) 65536 (omega arith))

    pub digit_before : DigitsOf (b ∷ columns) (weight * 10) (n + (b - 48) * weight)
    unfolding digits_from
    digit_before =
        record {
          weighs = rw (pow-suc 10 (length columns), ← behind.weighs);
          below = let p = behind.below in let digit : (b - 48) * weight ≤ 9 * weight = mul-le-mul_right weight (omega arith) in omega arith;
          shown = λ m h.
              let sum : (m * 10 + (b - 48)) * weight ≡ m * 10 * weight + (b - 48) * weight = add-mul (m * 10) (b - 48) weight in
              let tens : m * 10 * weight ≡ m * (weight * 10) = rw (mul_assoc m 10 weight, mul_comm 10 weight) in
              let e : (m * 10 + (b - 48)) * weight + n ≡ m * (weight * 10) + (n + (b - 48) * weight) = omega arith in
              rw (le-ltb b 48 low, le-ltb 57 b high, ← e) (after m (ltb (m * 10 + (b - 48)) 65536) refl);
        }

-- ---- a column that is no digit

pub never : {n : ℕ} → None ≡ Some n → ⊥
never e = let z : ◌≡◌ {A = ℕ} 0 1 = cc in omega arith

all_out : (x y z : Bool) → ◌≡◌ {A = Option ℕ} None (cond x None (cond y None (cond z None None)))
all_out true y z = refl
all_out false true z = refl
all_out false false true = refl
all_out false false false = refl

pub no_digit : (columns : List ℕ) (i m : ℕ) → i < length columns
    → ((k : ℕ) (behind : List ℕ) → None ≡ digits_from k (get_or columns i 0 ∷ behind))
    → None ≡ digits_from m columns
unfolding digits_from
no_digit [] i m l h = let z : ⊥ = omega arith in absurd z
no_digit (b ∷ columns) zero m l h = h m columns
no_digit (b ∷ columns) (suc i) m l h =
    rw (← no_digit columns i (m * 10 + (b - 48)) (omega arith) h) (all_out (ltb b 48) (ltb 57 b) (ltb (m * 10 + (b - 48)) 65536))

pub too_low : (b m : ℕ) (columns : List ℕ) → b < 48 → None ≡ digits_from m (b ∷ columns)
unfolding digits_from
too_low b m columns h = rw (lt-ltb b 48 h)

pub too_high : (b m : ℕ) (columns : List ℕ) → 57 < b → None ≡ digits_from m (b ∷ columns)
unfolding digits_from
too_high b m columns h = rw (le-ltb b 48 (omega arith), lt-ltb 57 b h)

-- ---- one digit

pub one_digit : (b : ℕ) → 48 ≤ b → b ≤ 57 → Some (b - 48) ≡ digits_from 0 (b ∷ [])
unfolding digits_from
one_digit b l h =
    let e : 0 * 10 + (b - 48) ≡ b - 48 = omega arith in
    rw (le-ltb b 48 l, le-ltb 57 b h, e, lt-ltb (b - 48) 65536 (omega arith))

pub not_one : (b : ℕ) → (b < 48) ⊎ (57 < b) → None ≡ digits_from 0 (b ∷ [])
not_one b (inl h) = too_low b 0 [] h
not_one b (inr h) = too_high b 0 [] h

-- a byte that is read as the digit d is one, and d is its number
pub record IsDigit (b d : ℕ) : Type 0 where
  pub low : 48 ≤ b
  pub high : b ≤ 57
  pub number : d ≡ b - 48

module _ (b : ℕ) where
  read_by : (d : ℕ) (l h : Bool) → ltb b 48 ≡ l → ltb 57 b ≡ h → Some d ≡ digits_from 0 (b ∷ []) → IsDigit b d
  read_by d true h el eh e = absurd (never (too_low b 0 [] (ltb-true b 48 el) ∙ sym e))
  read_by d false true el eh e = absurd (never (too_high b 0 [] (ltb-true 57 b eh) ∙ sym e))
  read_by d false false el eh e =
      let low = ltb-false b 48 el in
      let high = ltb-false 57 b eh in
      let same : Some d ≡ Some (b - 48) = e ∙ sym (one_digit b low high) in
      record { low = low; high = high; number = cc }

  pub is_digit : (d : ℕ) → Some d ≡ digits_from 0 (b ∷ []) → IsDigit b d
  is_digit d e = read_by d _ _ refl refl e

  -- a byte that is read as none spoils all digits
  unread_by : (l h : Bool) → ltb b 48 ≡ l → ltb 57 b ≡ h → None ≡ digits_from 0 (b ∷ []) → (k : ℕ) (behind : List ℕ) → None ≡ digits_from k (b ∷ behind)
  unread_by true h el eh e k behind = too_low b k behind (ltb-true b 48 el)
  unread_by false true el eh e k behind = too_high b k behind (ltb-true 57 b eh)
  unread_by false false el eh e k behind = absurd (never (e ∙ sym (one_digit b (ltb-false b 48 el) (ltb-false 57 b eh))))

  pub unread : None ≡ digits_from 0 (b ∷ []) → (k : ℕ) (behind : List ℕ) → None ≡ digits_from k (b ∷ behind)
  unread = unread_by _ _ refl refl
