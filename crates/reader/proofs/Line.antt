-- Laws of a line's fields (specs/Line). The first field, and those after it (`first_field`, `no_field`); a part that starts after the k-th
-- field has the later fields (`rest_fields`); bytes that are written fields have just these (`fields_written`).
use Prim.Native.Nat.{ℕ, zero, suc, ◌+◌, ◌-◌, ◌*◌, ◌/◌, ◌^◌, ◌<◌, ◌≤◌}
use mathlib.Core.Path.{◌≡◌, refl, sym, ap, ◌∙◌}
use mathlib.Core.List.{List, [], ◌∷◌, ◌++◌, append_assoc}
use native.Mathlib.Omega.{arith}
use lib.ListN.{length, take, drop, length-take, length-drop, drop_of_length-le}
use lib.Seq.{take_all, drop-drop, take_at, drop_at, take-add}
use Rattle.columns.specs.Columns.{columns_of, field_of}
use Rattle.reader.specs.Line.{written, Each16, none, more, field_there, and_then, fields_from, fields_of, after, next_at}
use Rattle.std.specs.Prelude.{Option, Some, None, is_some, true}
use Rattle.columns.proofs.Columns.{is_field, six, read_back, length_columns}

-- a part of a slice up to its end
pub part_all : (bytes : List ℕ) (at : ℕ) → take (length bytes - at) (drop at bytes) ≡ drop at bytes
part_all bytes at = take_all (length bytes - at) (drop at bytes) (rw (length-drop at bytes) (omega arith))

pub part_none : (bytes : List ℕ) (k : ℕ) → length bytes / 6 < k → take (length bytes - length bytes) (drop (length bytes) bytes) ≡ drop (6 * k) bytes
part_none bytes k h =
    let e : length bytes - length bytes ≡ 0 = omega arith in
    rw (e, drop_of_length-le bytes {i = 6 * k} (omega arith))

-- ---- the first field, and those after it

field_here : (bytes : List ℕ) (n : ℕ) → field_there bytes 0 ≡ Some n → 6 ≤ length bytes
field_here bytes n e = let l = six (is_field (take 6 bytes) n e) in let m = rw (length-take 6 bytes) at l in omega arith

pub first_field : (bytes : List ℕ) (n : ℕ) → field_there bytes 0 ≡ Some n → fields_of bytes ≡ n ∷ fields_of (drop 6 bytes)
unfolding fields_of fields_from
first_field bytes n e =
    let h = field_here bytes n e in
    let m : length bytes / 6 ≡ suc ((length bytes - 6) / 6) = omega arith in
    rw (length-drop 6 bytes, m, e)

none_from : (k : ℕ) (bytes : List ℕ) → field_there bytes 0 ≡ None → fields_from k bytes ≡ []
unfolding fields_from
none_from zero bytes e = refl
none_from (suc k) bytes e = rw e

pub no_field : (bytes : List ℕ) → field_there bytes 0 ≡ None → fields_of bytes ≡ []
unfolding fields_of
no_field bytes e = none_from (length bytes / 6) bytes e

-- ---- a step of the reader

pub field_inside : (bytes : List ℕ) (k n : ℕ) → field_there bytes k ≡ Some n → 6 * (k + 1) ≤ length bytes
field_inside bytes k n e = omega (arith, field_here (drop (6 * k) bytes) n e, length-drop (6 * k) bytes)

-- the number of the field after one fits
pub next_fits : (bytes : List ℕ) (k : ℕ) (f : Option ℕ) → f ≡ field_there bytes k → is_some f ≡ true → length bytes < 2 ^ 64 → k + 1 < 2 ^ 64
next_fits bytes k (Some n) e some h = omega (arith, field_inside bytes k n (sym e))
next_fits bytes k None e some h = cc

-- a field is passed
module _ (bytes : List ℕ) (k : ℕ) where
  pub next_moved : (n : ℕ) → field_there bytes k ≡ Some n → next_at bytes k ≡ k + 1
  next_moved n e = ap (λ (f : Option ℕ). after f k) e

  within_by : (f : Option ℕ) → f ≡ field_there bytes k → 6 * k ≤ length bytes → 6 * after f k ≤ length bytes
  within_by None e h = h
  within_by (Some n) e h = field_inside bytes k n (sym e)

  -- it stays within the bytes
  pub next_within : 6 * k ≤ length bytes → 6 * next_at bytes k ≤ length bytes
  next_within = within_by (field_there bytes k) refl

-- ---- the fields after the k-th

six_more : (k : ℕ) (bytes : List ℕ) → drop (6 * k) (drop 6 bytes) ≡ drop (6 * suc k) bytes
six_more k bytes = let e : 6 + 6 * k ≡ 6 * suc k = omega arith in drop-drop (6 * k) 6 bytes ∙ ap (λ (j : ℕ). drop j bytes) e

rest_by : (k : ℕ) (bytes : List ℕ) (f : Option ℕ) → field_there bytes 0 ≡ f → suc k ≤ length (fields_of bytes)
    → (k ≤ length (fields_of (drop 6 bytes)) → fields_of (drop (6 * k) (drop 6 bytes)) ≡ drop k (fields_of (drop 6 bytes)))
    → fields_of (drop (6 * suc k) bytes) ≡ drop (suc k) (fields_of bytes)
rest_by k bytes (Some n) e h ih =
    let p = first_field bytes n e in
    let m = rw p at h in
    rw (p, ← six_more k bytes) (ih (omega arith))
rest_by k bytes None e h ih = let m = rw (no_field bytes e) at h in let z : ⊥ = omega arith in absurd z

-- "the rest of a line after a term is handed on as a part": its fields are those of the line after the k-th
pub rest_fields : (k : ℕ) (bytes : List ℕ) → k ≤ length (fields_of bytes) → fields_of (drop (6 * k) bytes) ≡ drop k (fields_of bytes)
rest_fields zero bytes h = refl
rest_fields (suc k) bytes h = rest_by k bytes _ refl h (rest_fields k (drop 6 bytes))

-- ---- what is written has just these fields, and what has its fields as a whole was so written

pub fields_written : (ns bytes : List ℕ) → Each16 ns → fields_of (written ns ++ bytes) ≡ ns ++ fields_of bytes
unfolding written
fields_written [] bytes none = refl
fields_written (n ∷ ns) bytes (more h each) =
    let l = length_columns n in
    let first : field_of (take 6 ((columns_of n ++ written ns) ++ bytes)) ≡ Some n =
    rw (append_assoc (columns_of n) (written ns) bytes, take_at (columns_of n) (written ns ++ bytes) 6 l) (read_back n h)
    in
    let later : drop 6 ((columns_of n ++ written ns) ++ bytes) ≡ written ns ++ bytes =
    rw (append_assoc (columns_of n) (written ns) bytes) (drop_at (columns_of n) (written ns ++ bytes) 6 l)
    in
    rw (first_field _ n first, later, fields_written ns bytes each)

-- the fields that bytes begin with, as bytes
pub record Begins (bytes ns : List ℕ) : Type 0 where
  pub each : Each16 ns
  pub prefix : take (6 * length ns) bytes ≡ written ns

begins_by : (k : ℕ) (bytes : List ℕ) (f : Option ℕ) → field_of (take 6 bytes) ≡ f → Begins (drop 6 bytes) (fields_from k (drop 6 bytes))
    → Begins bytes (and_then f (fields_from k (drop 6 bytes)))
unfolding written
begins_by k bytes None e ih = record { each = none; prefix = refl }
begins_by k bytes (Some n) e ih =
    let f = is_field (take 6 bytes) n e in
    let ns = fields_from k (drop 6 bytes) in
    let m : 6 * suc (length ns) ≡ 6 + 6 * length ns = omega arith in
    record { each = more f.small ih.each; prefix = rw (m, take-add 6 (6 * length ns) bytes, ih.prefix, f.written) }

begins_from : (k : ℕ) (bytes : List ℕ) → Begins bytes (fields_from k bytes)
unfolding fields_from written
begins_from zero bytes = record { each = none; prefix = refl }
begins_from (suc k) bytes = begins_by k bytes _ refl (begins_from k (drop 6 bytes))

pub begins : (bytes : List ℕ) → Begins bytes (fields_of bytes)
unfolding fields_of
begins bytes = begins_from (length bytes / 6) bytes

-- ---- the fields that bytes begin with stand within them

from_most : (k : ℕ) (bytes : List ℕ) → length (fields_from k bytes) ≤ k
unfolding fields_from
from_most zero bytes = omega arith
from_most (suc k) bytes = go (field_of (take 6 bytes)) (from_most k (drop 6 bytes))
  where
    go : (f : Option ℕ) → length (fields_from k (drop 6 bytes)) ≤ k → length (and_then f (fields_from k (drop 6 bytes))) ≤ suc k
    go (Some n) h = omega arith
    go None h = omega arith

pub fields_within : (bytes : List ℕ) → 6 * length (fields_of bytes) ≤ length bytes
unfolding fields_of
fields_within bytes = omega (arith, from_most (length bytes / 6) bytes)
