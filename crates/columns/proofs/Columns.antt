-- Laws of specs/Columns: what is written is read back as the same number (`read_back`), what is read was written so (`is_field`), so
-- a number is found exactly where the columns are its field (`exactly`). No column is a byte 10.
use Prim.Native.Nat.{ℕ, ◌+◌, ◌-◌, ◌*◌, ◌/◌, ◌%◌, ◌<◌, ◌≤◌}
use mathlib.Core.Path.{◌≡◌, refl, sym, ◌∙◌}
use mathlib.Core.Logic.{◌≢◌, ◌↔◌}
use mathlib.Core.Bool.{Bool, true, false, cond, ◌&&◌}
use mathlib.Core.List.{List, [], ◌∷◌}
use native.Mathlib.Omega.{arith}
use native.Mathlib.Nat.{div-eq_of_lt, mod-lt, div-div-eq-div-mul, div-add-mod'}
use borrow.Author.Tests.{lt-ltb, le-ltb, eq-eqb, eqb-true, ltb-true}
use lib.Dec.{eqb, ltb}
use lib.ListN.{length, take, drop, length-take, length-drop}
use lib.Seq.{take_all}
use Rattle.columns.specs.Columns.{column_of, columns_of, IsField, digit_of, shown_after, bytes_agree, field_of}
use Rattle.std.specs.Prelude.{Option, Some, None}

-- ---- tests

pub and_left : (a b : Bool) → a && b ≡ true → a ≡ true
and_left true b h = refl
and_left false b h = h

pub and_right : (a b : Bool) → a && b ≡ true → b ≡ true
and_right true b h = h
and_right false b h = cc

same_refl : (bytes : List ℕ) → bytes_agree bytes bytes ≡ true
unfolding bytes_agree
same_refl [] = refl
same_refl (b ∷ bytes) = rw (eq-eqb b b refl, same_refl bytes)

same_eq : (bs cs : List ℕ) → bytes_agree bs cs ≡ true → bs ≡ cs
unfolding bytes_agree
same_eq [] [] h = refl
same_eq [] (c ∷ cs) h = cc
same_eq (b ∷ bs) [] h = cc
same_eq (b ∷ bs) (c ∷ cs) h =
    let e : b ≡ c = eqb-true b c (and_left (eqb b c) (bytes_agree bs cs) h) in
    let es : bs ≡ cs = same_eq bs cs (and_right (eqb b c) (bytes_agree bs cs) h) in
    cc

-- ---- what is written shows its number

digit_of_lem : (x : ℕ) → x < 10 → digit_of (48 + x) ≡ x
unfolding digit_of
digit_of_lem x h = rw (le-ltb (48 + x) 48 (omega arith), le-ltb 57 (48 + x) (omega arith)) (omega arith)

column_by : (n weight : ℕ) (small : Bool) → ltb n weight ≡ small → digit_of (cond small 32 (48 + n / weight % 10)) ≡ n / weight % 10
unfolding digit_of
column_by n weight true e = let h : n < weight = ltb-true n weight e in rw (div-eq_of_lt h)
column_by n weight false e = digit_of_lem (n / weight % 10) (mod-lt (n / weight) (omega arith))

column_digit : (n weight : ℕ) → digit_of (column_of n weight) ≡ n / weight % 10
unfolding column_of
column_digit n weight = column_by n weight (ltb n weight) refl

-- the digit of a weight after those of the higher weights
pub tens : (n weight : ℕ) → n / (weight * 10) * 10 + n / weight % 10 ≡ n / weight
tens n weight = rw (← div-div-eq-div-mul n weight 10) (div-add-mod' (n / weight) 10)

shown : (n : ℕ) → n < 65536 → shown_after 0 (columns_of n) ≡ n
unfolding shown_after columns_of
shown n h =
    let first : 0 * 10 + n / 100000 % 10 ≡ n / 100000 = omega arith in
    rw
    (column_digit n 100000, column_digit n 10000, column_digit n 1000, column_digit n 100, column_digit n 10, digit_of_lem (n % 10) (omega arith), first, tens n 10000, tens n 1000, tens n 100, tens n 10)
    (div-add-mod' n 10)

-- a field that is written is read back as the same number
pub read_back : (n : ℕ) → n < 65536 → field_of (columns_of n) ≡ Some n
unfolding field_of
read_back n h = rw (shown n h, lt-ltb n 65536 h, same_refl (columns_of n))

-- ---- which columns are a field of which number

read_by : (columns : List ℕ) (m n : ℕ) (test : Bool)
    → test ≡ ltb m 65536 && bytes_agree columns (columns_of m)
    → cond test (Some m) None ≡ Some n
    → IsField columns n
read_by columns m n true e h =
    let k : m ≡ n = cc in
    rw (← k)
    (record {
      small = ltb-true m 65536 (and_left (ltb m 65536) (bytes_agree columns (columns_of m)) (sym e));
      written = same_eq columns (columns_of m) (and_right (ltb m 65536) (bytes_agree columns (columns_of m)) (sym e));
    })
read_by columns m n false e h = let z : ◌≡◌ {A = ℕ} 0 1 = cc in let z' : ⊥ = omega arith in absurd z'

pub is_field : (columns : List ℕ) (n : ℕ) → field_of columns ≡ Some n → IsField columns n
unfolding field_of
is_field columns n h = read_by columns (shown_after 0 columns) n _ refl h

pub field_is : {columns : List ℕ} {n : ℕ} → IsField columns n → field_of columns ≡ Some n
field_is {columns} {n} f = rw f.written (read_back n f.small)

-- the number is found exactly where the columns are its field
pub exactly : (columns : List ℕ) (n : ℕ) → (field_of columns ≡ Some n) ↔ IsField columns n
exactly columns n = (is_field columns n, field_is)

-- ---- a field's length, and that no column ends a line

pub six : {columns : List ℕ} {n : ℕ} → IsField columns n → length columns ≡ 6
unfolding columns_of
six f = rw f.written

read_long : (columns : List ℕ) (f : Option ℕ) → field_of columns ≡ f → length columns ≢ 6 → f ≡ None
read_long columns None e h = refl
read_long columns (Some n) e h = absurd (h (six (is_field columns n e)))

-- past a line's last six columns there is no field
pub past_end : (bytes : List ℕ) (k : ℕ) → length bytes / 6 ≤ k → None ≡ field_of (take 6 (drop (6 * k) bytes))
past_end bytes k h =
    let columns = take 6 (drop (6 * k) bytes) in
    sym (read_long columns _ refl (rw (length-take 6 (drop (6 * k) bytes), length-drop (6 * k) bytes) (λ e. omega arith)))

-- what the part that starts at the k-th six columns begins with
pub field_in : (bytes : List ℕ) (k : ℕ) (r : Option ℕ) → r ≡ field_of (take 6 (take (length bytes - 6 * k) (drop (6 * k) bytes)))
    → r ≡ field_of (take 6 (drop (6 * k) bytes))
field_in bytes k r e =
    e ∙ rw (take_all (length bytes - 6 * k) (drop (6 * k) bytes) (rw (length-drop (6 * k) bytes) (omega arith)))

pub length_columns : (n : ℕ) → length (columns_of n) ≡ 6
unfolding columns_of
length_columns n = refl

pub no_line_end : (n weight : ℕ) → column_of n weight ≢ 10
unfolding column_of
no_line_end n weight = go (ltb n weight)
  where
    go : (small : Bool) → cond small 32 (48 + n / weight % 10) ≢ 10
    go true h = omega arith
    go false h = omega arith
