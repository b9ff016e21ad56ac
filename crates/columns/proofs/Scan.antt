-- The columns of a field one by one find what `field_of` says (specs/Scan). By induction over the columns: digits that were read are
-- those of the number, its tens on their left; with its first digit not 0, and blanks before, they are the number as it is written.
use Prim.Native.Nat.{ℕ, zero, suc, ◌+◌, ◌-◌, ◌*◌, ◌/◌, ◌%◌, ◌^◌, ◌<◌, ◌≤◌}
use mathlib.Core.Path.{◌≡◌, refl, sym, ap, ◌∙◌}
use mathlib.Core.Logic.{◌≢◌}
use mathlib.Core.Bool.{Bool, true, false, cond}
use mathlib.Core.List.{List, [], ◌∷◌}
use native.Mathlib.Omega.{arith}
use native.Mathlib.Nat.{div-eq_of_lt, div-div-eq-div-mul, pow-suc, div-lt_iff_lt-mul, div-le_self, mod-lt, mod-eq_of_lt, div-add-mod', le-div_iff_mul-le}
use borrow.Author.Tests.{lt-ltb, le-ltb, ne_eqb, eqb-true, eqb-false, ltb-true, ltb-false}
use lib.Dec.{eqb, ltb}
use lib.ListN.{length}
use Rattle.columns.specs.Columns.{column_of, columns_of, IsField, field_of}
use Rattle.columns.specs.Scan.{blanks_of, digits_from, alone, after_blanks, scanned}
use Rattle.std.specs.Prelude.{Option, Some, None}
use Rattle.columns.proofs.Columns.{is_field, field_is, tens}

never : {n : ℕ} → None ≡ Some n → ⊥
never e = let z : ◌≡◌ {A = ℕ} 0 1 = cc in omega arith

-- ---- digits one by one

digit_next : (m x : ℕ) (columns : List ℕ) → x < 10 → m * 10 + x < 65536 → digits_from m ((48 + x) ∷ columns) ≡ digits_from (m * 10 + x) columns
unfolding digits_from
digit_next m x columns h k =
    let e : 48 + x - 48 ≡ x = omega arith in
    rw (le-ltb (48 + x) 48 (omega arith), le-ltb 57 (48 + x) (omega arith), e, lt-ltb (m * 10 + x) 65536 k)

digit_first : (x : ℕ) (columns : List ℕ) → x < 10 → x ≢ 0 → scanned ((48 + x) ∷ columns) ≡ digits_from x columns
unfolding scanned blanks_of after_blanks
digit_first x columns h z =
    let e : 0 * 10 + x ≡ x = omega arith in
    rw (ne_eqb (48 + x) 32 (omega arith), ne_eqb (48 + x) 48 (omega arith), digit_next 0 x columns h (omega arith), e)

-- the digits from a weight on, after the number that those before are
digit_down : (n weight : ℕ) (columns : List ℕ) → n < 65536
    → digits_from (n / (weight * 10)) ((48 + n / weight % 10) ∷ columns) ≡ digits_from (n / weight) columns
digit_down n weight columns h =
    let most : n / weight ≤ n = div-le_self n weight in
    rw (digit_next (n / (weight * 10)) (n / weight % 10) columns (mod-lt (n / weight) (omega arith)) (rw (tens n weight) (omega arith)), tens n weight)

-- the first digit
digit_lead : (n weight : ℕ) (columns : List ℕ) → n / weight < 10 → n / weight ≢ 0
    → scanned ((48 + n / weight % 10) ∷ columns) ≡ digits_from (n / weight) columns
digit_lead n weight columns h z = rw (mod-eq_of_lt h) (digit_first (n / weight) columns h z)

last_digit : (n : ℕ) → n < 65536 → digits_from (n / 10) ((48 + n % 10) ∷ []) ≡ Some n
unfolding digits_from
last_digit n h = rw (digit_next (n / 10) (n % 10) [] (omega arith) (omega arith), div-add-mod' n 10)

blank_skipped : (columns : List ℕ) → scanned (32 ∷ columns) ≡ scanned columns
unfolding scanned blanks_of
blank_skipped columns = refl

-- the last k + 1 columns of a number, and the same with a digit in each
columns_in : ℕ → ℕ → List ℕ
columns_in zero n = (48 + n % 10) ∷ []
columns_in (suc k) n = column_of n (10 ^ suc k) ∷ columns_in k n

digits_in : ℕ → ℕ → List ℕ
digits_in zero n = (48 + n % 10) ∷ []
digits_in (suc k) n = (48 + n / 10 ^ suc k % 10) ∷ digits_in k n

all_six : (n : ℕ) → columns_of n ≡ columns_in 5 n
unfolding columns_of columns_in
all_six n = refl

less_weight : (k n : ℕ) → 10 ^ suc k ≤ n → 10 ^ k ≤ n
less_weight k n h = let e : 10 ^ suc k ≡ 10 ^ k * 10 = pow-suc 10 k in omega arith

is_digit : (n weight : ℕ) → weight ≤ n → column_of n weight ≡ 48 + n / weight % 10
unfolding column_of
is_digit n weight h = rw (le-ltb n weight h)

is_blank : (n weight : ℕ) → n < weight → column_of n weight ≡ 32
unfolding column_of
is_blank n weight h = rw (lt-ltb n weight h)

-- ---- what is written is scanned

digits_down : (k n : ℕ) → n < 65536 → 10 ^ k ≤ n → digits_from (n / 10 ^ suc k) (columns_in k n) ≡ Some n
unfolding columns_in
digits_down zero n small h = last_digit n small
digits_down (suc k) n small h =
    rw (is_digit n (10 ^ suc k) h, pow-suc 10 (suc k), digit_down n (10 ^ suc k) (columns_in k n) small)
    (digits_down k n small (less_weight k n h))

one_by : (n : ℕ) (none : Bool) → eqb n 0 ≡ none → n < 10 → scanned ((48 + n % 10) ∷ []) ≡ Some n
unfolding scanned blanks_of after_blanks alone digits_from
one_by n true e h = rw (eqb-true n 0 e)
one_by n false e h = rw (mod-eq_of_lt h) (digit_first n [] h (eqb-false n 0 e))

-- the quotient of a number by the weight of its first digit is that digit
lead_small : (n weight : ℕ) → 0 < weight → n < weight * 10 → n / weight < 10
lead_small n weight p h = (div-lt_iff_lt-mul p).1 (omega arith)

lead_some : (n weight : ℕ) → 0 < weight → weight ≤ n → n / weight ≢ 0
lead_some n weight p h z = let k : 1 ≤ n / weight = (le-div_iff_mul-le p).1 (omega arith) in omega arith

weight_some : (k : ℕ) → 0 < 10 ^ k
weight_some zero = omega arith
weight_some (suc k) = let h = weight_some k in rw (pow-suc 10 k) (omega arith)

-- a column more on the left: a blank, or the first digit
columns_by : (k n : ℕ) (less : Bool) → ltb n (10 ^ suc k) ≡ less → n < 65536 → n < 10 ^ suc (suc k)
    → (n < 10 ^ suc k → scanned (columns_in k n) ≡ Some n)
    → scanned (columns_in (suc k) n) ≡ Some n
unfolding columns_in
columns_by k n true e small h ih =
    let l = ltb-true n (10 ^ suc k) e in
    rw (is_blank n (10 ^ suc k) l, blank_skipped (columns_in k n)) (ih l)
columns_by k n false e small h ih =
    let g = ltb-false n (10 ^ suc k) e in
    let p = weight_some (suc k) in
    rw
    (is_digit n (10 ^ suc k) g, digit_lead n (10 ^ suc k) (columns_in k n) (lead_small n (10 ^ suc k) p (rw (pow-suc 10 (suc k)) at h)) (lead_some n (10 ^ suc k) p g))
    (digits_down k n small (less_weight k n g))

columns_down : (k n : ℕ) → n < 65536 → n < 10 ^ suc k → scanned (columns_in k n) ≡ Some n
unfolding columns_in
columns_down zero n small h = one_by n (eqb n 0) refl h
columns_down (suc k) n small h = columns_by k n (ltb n (10 ^ suc k)) refl small h (columns_down k n small)

pub written_scan : (n : ℕ) → n < 65536 → scanned (columns_of n) ≡ Some n
written_scan n h = rw (all_six n) (columns_down 5 n h (omega arith))

-- ---- what is scanned was written so

-- a column that was read as a digit after the number v
record Digit (v b : ℕ) : Type 0 where
  low : 48 ≤ b
  high : b ≤ 57
  small : v * 10 + (b - 48) < 65536

digit_by : (v b : ℕ) (columns : List ℕ) (n : ℕ) (l h m : Bool) → ltb b 48 ≡ l → ltb 57 b ≡ h → ltb (v * 10 + (b - 48)) 65536 ≡ m
    → cond l None (cond h None (cond m (digits_from (v * 10 + (b - 48)) columns) None)) ≡ Some n
    → Digit v b × (digits_from (v * 10 + (b - 48)) columns ≡ Some n)
digit_by v b columns n true h m el eh em e = absurd (never e)
digit_by v b columns n false true m el eh em e = absurd (never e)
digit_by v b columns n false false false el eh em e = absurd (never e)
digit_by v b columns n false false true el eh em e =
    (record { low = ltb-false b 48 el; high = ltb-false 57 b eh; small = ltb-true _ 65536 em }, e)

digit_was : (v b : ℕ) (columns : List ℕ) (n : ℕ) → digits_from v (b ∷ columns) ≡ Some n
    → Digit v b × (digits_from (v * 10 + (b - 48)) columns ≡ Some n)
unfolding digits_from
digit_was v b columns n e = digit_by v b columns n _ _ _ refl refl refl e

-- k + 1 digits after the number v that make the number n
record Digits (v : ℕ) (columns : List ℕ) (k n : ℕ) : Type 0 where
  small : n < 65536
  higher : n / 10 ^ suc k ≡ v
  digits : columns ≡ digits_in k n

last_were : (v b n : ℕ) → Digit v b → digits_from (v * 10 + (b - 48)) [] ≡ Some n → Digits v (b ∷ []) 0 n
unfolding digits_from digits_in
last_were v b n d e =
    let m : v * 10 + (b - 48) ≡ n = cc in
    let low = d.low in
    let high = d.high in
    let digit : b ≡ 48 + n % 10 = omega arith in
    record { small = rw m at d.small; higher = omega arith; digits = ap (λ (c : ℕ). c ∷ []) digit }

next_were : (k v b : ℕ) (columns : List ℕ) (n : ℕ) → Digit v b → Digits (v * 10 + (b - 48)) columns k n → Digits v (b ∷ columns) (suc k) n
unfolding digits_in
next_were k v b columns n d ds =
    let low = d.low in
    let high = d.high in
    let tens : (v * 10 + (b - 48)) / 10 ≡ v = omega arith in
    let digit : 48 + (v * 10 + (b - 48)) % 10 ≡ b = omega arith in
    record {
      small = ds.small;
      higher = rw (pow-suc 10 (suc k), ← div-div-eq-div-mul n (10 ^ suc k) 10, ds.higher) tens;
      digits = rw (ds.higher, digit, ← ds.digits);
    }

digits_were : (k v : ℕ) (columns : List ℕ) (n : ℕ) → length columns ≡ suc k → digits_from v columns ≡ Some n → Digits v columns k n
digits_were k v [] n l e = let z : ⊥ = omega arith in absurd z
digits_were zero v (b ∷ []) n l e = let w = digit_was v b [] n e in last_were v b n w.0 w.1
digits_were zero v (b ∷ c ∷ columns) n l e = let z : ⊥ = omega arith in absurd z
digits_were (suc k) v (b ∷ columns) n l e =
    let w = digit_was v b columns n e in
    next_were k v b columns n w.0 (digits_were k (v * 10 + (b - 48)) columns n (omega arith) w.1)

-- where the first of them is not 0, digits are the columns
digits_columns : (k n : ℕ) → 10 ^ k ≤ n → digits_in k n ≡ columns_in k n
unfolding digits_in columns_in
digits_columns zero n h = refl
digits_columns (suc k) n h = rw (is_digit n (10 ^ suc k) h, digits_columns k n (less_weight k n h))

-- k + 1 columns that the number n is written in
record Columns (columns : List ℕ) (k n : ℕ) : Type 0 where
  small : n < 65536
  below : n < 10 ^ suc k
  written : columns ≡ columns_in k n

zero_was : (k : ℕ) (columns : List ℕ) (n : ℕ) → length columns ≡ k → alone columns ≡ Some n → Columns (48 ∷ columns) k n
unfolding alone columns_in
zero_was zero [] n l e = let z : 0 ≡ n = cc in rw (← z) (record { small = omega arith; below = omega arith; written = refl })
zero_was zero (b ∷ columns) n l e = absurd (never e)
zero_was (suc k) [] n l e = let z : ⊥ = omega arith in absurd z
zero_was (suc k) (b ∷ columns) n l e = absurd (never e)

-- a quotient that is 0, or is not, tells on which side of the weight a number is
below_by : (n weight : ℕ) (less : Bool) → ltb n weight ≡ less → 0 < weight → n / weight ≡ 0 → n < weight
below_by n weight true e p z = ltb-true n weight e
below_by n weight false e p z = absurd (lead_some n weight p (ltb-false n weight e) z)

above_by : (n weight : ℕ) (less : Bool) → ltb n weight ≡ less → n / weight ≢ 0 → weight ≤ n
above_by n weight true e z = absurd (z (div-eq_of_lt (ltb-true n weight e)))
above_by n weight false e z = ltb-false n weight e

lead_weight : (k n b : ℕ) (columns : List ℕ) → b ∷ columns ≡ digits_in k n → b ≢ 48 → 10 ^ k ≤ n
unfolding digits_in
lead_weight zero n b columns e z = let d : b ≡ 48 + n % 10 = cc in omega arith
lead_weight (suc k) n b columns e z =
    let d : b ≡ 48 + n / 10 ^ suc k % 10 = cc in
    above_by n (10 ^ suc k) _ refl (λ q. z (d ∙ rw q))

digits_start : (k b : ℕ) (columns : List ℕ) (n : ℕ) → length columns ≡ k → b ≢ 48 → digits_from 0 (b ∷ columns) ≡ Some n → Columns (b ∷ columns) k n
digits_start k b columns n l z e =
    let ds = digits_were k 0 (b ∷ columns) n (omega arith) e in
    record {
      small = ds.small;
      below = below_by n (10 ^ suc k) _ refl (weight_some (suc k)) ds.higher;
      written = ds.digits ∙ digits_columns k n (lead_weight k n b columns ds.digits z);
    }

-- a blank before columns
blank_was : (k : ℕ) (columns : List ℕ) (n : ℕ) → Columns columns k n → Columns (32 ∷ columns) (suc k) n
unfolding columns_in
blank_was k columns n c =
    record {
      small = c.small;
      below = let h = c.below in let e : 10 ^ suc (suc k) ≡ 10 ^ suc k * 10 = pow-suc 10 (suc k) in omega arith;
      written = rw (is_blank n (10 ^ suc k) c.below, ← c.written);
    }

first_was : (k b : ℕ) (columns : List ℕ) (n : ℕ) (blank none : Bool) → eqb b 32 ≡ blank → eqb b 48 ≡ none → length columns ≡ k
    → scanned (b ∷ columns) ≡ Some n
    → ((j : ℕ) → length columns ≡ suc j → scanned columns ≡ Some n → Columns columns j n)
    → Columns (b ∷ columns) k n
unfolding scanned blanks_of after_blanks
first_was zero b [] n true none eb en l e ih = absurd (never (rw (eqb-true b 32 eb) at e))
first_was zero b (c ∷ columns) n true none eb en l e ih = let z : ⊥ = omega arith in absurd z
first_was (suc k) b columns n true none eb en l e ih =
    let is = eqb-true b 32 eb in
    rw is (blank_was k columns n (ih k l (rw is at e)))
first_was k b columns n false true eb en l e ih =
    let is = eqb-true b 48 en in
    rw is (zero_was k columns n l (rw is at e))
first_was k b columns n false false eb en l e ih = digits_start k b columns n l (eqb-false b 48 en) (rw (eb, en) at e)

scan_was : (k : ℕ) (columns : List ℕ) (n : ℕ) → length columns ≡ suc k → scanned columns ≡ Some n → Columns columns k n
scan_was k [] n l e = let z : ⊥ = omega arith in absurd z
scan_was k (b ∷ columns) n l e = first_was k b columns n _ _ refl refl (omega arith) e (λ j m f. scan_was j columns n m f)

-- ---- so six columns are scanned as the field that they are

scan_is : (columns : List ℕ) (n : ℕ) → length columns ≡ 6 → scanned columns ≡ Some n → IsField columns n
scan_is columns n l e =
    let c = scan_was 5 columns n l e in
    record { small = c.small; written = c.written ∙ sym (all_six n) }

agree : (columns : List ℕ) → length columns ≡ 6 → (s f : Option ℕ) → scanned columns ≡ s → field_of columns ≡ f → s ≡ f
agree columns l (Some n) f es ef = sym (field_is (scan_is columns n l es)) ∙ ef
agree columns l None None es ef = refl
agree columns l None (Some n) es ef =
    let f = is_field columns n ef in
    sym es ∙ (ap scanned f.written ∙ written_scan n f.small)

pub scan_field : (columns : List ℕ) → length columns ≡ 6 → scanned columns ≡ field_of columns
scan_field columns l = agree columns l _ _ refl refl
