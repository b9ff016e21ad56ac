-- What a turn of each loop keeps: what is still to be done, from here, gives the whole. The fields of a part, the lines of a text.
use Prim.Native.Nat.{ℕ, ◌+◌, ◌-◌, ◌*◌, ◌<◌, ◌≤◌}
use mathlib.Core.Path.{◌≡◌, refl, sym, ap, ◌∙◌}
use mathlib.Core.Logic.{◌≢◌}
use mathlib.Core.Bool.{Bool, true, false, cond, ◌||◌, or-true}
use mathlib.Core.List.{List, [], ◌∷◌, append-nil}
use native.Mathlib.Omega.{arith}
use borrow.Author.Tests.{lt-ltb, le-ltb, ne_eqb}
use lib.Dec.{ltb}
use lib.ListN.{length, get_or, take, drop, length-drop, drop_of_length-le}
use lib.Seq.{drop-drop, get_or-drop}
use Rattle.reader.specs.Line.{written, field_there, fields_of, next_at, next_of}
use Rattle.reader.specs.declared.LineReader.{LineReader}
use Rattle.reader.specs.declared.Next.{Next}
use Rattle.reader.specs.Text.{lines_of, last_of, fields_by_line, count_all, is_line, any_line, fault2, fault3, lines_fault}
use Rattle.std.specs.Prelude.{Some, None}
use Rattle.reader.proofs.Line.{first_field, no_field, part_all, fields_within, field_inside, next_moved}
use Rattle.reader.proofs.Text.{first_line, lines_first, beyond, split, fields_first, no_fields, not_whole, whole_line, after_line, last_after, last_written}

-- ==== the fields of a part

module _ (bytes : List ℕ) (k : ℕ) where
  later : drop 6 (drop (6 * k) bytes) ≡ drop (6 * (k + 1)) bytes
  later = let e : 6 * k + 6 ≡ 6 * (k + 1) = omega arith in drop-drop 6 (6 * k) bytes ∙ ap (λ (j : ℕ). drop j bytes) e

  -- k fields are passed, and those still ahead are the rest
  module _ (inv : k + length (fields_of (drop (6 * k) bytes)) ≡ length (fields_of bytes)) where
    pub passed_within : 6 * k ≤ length bytes
    passed_within = omega (arith, fields_within bytes)

    pub count_stop : field_there bytes k ≡ None → k ≡ length (fields_of bytes)
    count_stop e = let m = rw (no_field (drop (6 * k) bytes) e) at inv in omega arith

    module _ (n : ℕ) (e : field_there bytes k ≡ Some n) where
      pub count_turn : next_at bytes k + length (fields_of (drop (6 * next_at bytes k) bytes)) ≡ length (fields_of bytes)
      count_turn = let m = rw (first_field (drop (6 * k) bytes) n e, later) at inv in rw (next_moved bytes k n e) (omega arith)

      pub count_less : length bytes - next_at bytes k < length bytes - k
      count_less = omega (arith, next_moved bytes k n e, field_inside bytes k n e)

-- a turn of a loop that holds the reader of a part
module _ (bytes : List ℕ) (r : LineReader) (next : Next) (same : r.line.now ≡ bytes) (told : next ≡ next_of r) where
  pub at_on : next.reader.at ≡ next_at bytes r.at
  at_on = ap (λ (m : Next). m.reader.at) told ∙ ap (λ (b : List ℕ). next_at b r.at) same

  pub field_on : next.field ≡ field_there bytes r.at
  field_on = ap (λ (m : Next). m.field) told ∙ ap (λ (b : List ℕ). field_there b r.at) same

  pub same_on : next.reader.line.now ≡ bytes
  same_on = ap (λ (m : Next). m.reader.line.now) told ∙ same

  -- the first of its fields are passed, and those still ahead are the rest
  module _ (passed : r.at + length (fields_of (drop (6 * r.at) bytes)) ≡ length (fields_of bytes)) where
    pub turn_stop : next.field ≡ None → r.at ≡ length (fields_of bytes)
    turn_stop e = count_stop bytes r.at passed (sym field_on ∙ e)

    module _ (n : ℕ) (e : next.field ≡ Some n) where
      pub turn_less : length bytes - next.reader.at < length bytes - r.at
      turn_less = rw at_on (count_less bytes r.at passed n (sym field_on ∙ e))

      pub turn_passed : next.reader.at + length (fields_of (drop (6 * next.reader.at) bytes)) ≡ length (fields_of bytes)
      turn_passed = rw at_on (count_turn bytes r.at passed n (sym field_on ∙ e))

-- ==== the lines of a text

-- ---- the fault of what is left of a text, after `total` fields, with a long line among them or not

long_line : List ℕ → Bool
long_line fields = ltb 256 (length fields)

pub fault_after : Bool → ℕ → List ℕ → ℕ
fault_after long total text =
    cond (fault2 text) 2
    (cond (long || (any_line long_line (fields_by_line text) || ltb 4096 (total + count_all (fields_by_line text)))) 3 0)

pub fault_start : (text : List ℕ) → fault_after false 0 text ≡ lines_fault text
unfolding fault_after lines_fault fault3 long_line
fault_start text = let e : 0 + count_all (fields_by_line text) ≡ count_all (fields_by_line text) = omega arith in rw e

-- a first line that is not whole, or a last one without its end
bad_line : (long : Bool) (total : ℕ) (text : List ℕ) → text ≢ [] → is_line (first_line text) ≡ false → 2 ≡ fault_after long total text
unfolding fault_after fault2 any_line
bad_line long total [] some h = absurd (some refl)
bad_line long total (b ∷ text) some h = rw (lines_first b text, h)

no_end : (long : Bool) (total : ℕ) (text : List ℕ) → last_of 10 text ≢ 10 → 2 ≡ fault_after long total text
unfolding fault_after fault2
no_end long total text h = rw (ne_eqb (last_of 10 text) 10 h, or-true)

-- the same facts by cases: a or b or c, in another order
regroup : (a b c d : Bool) → (a || ((b || c) || d)) ≡ ((a || b) || (c || d))
regroup true b c d = refl
regroup false true c d = refl
regroup false false c d = refl

-- a whole first line leaves the fault of the lines after it
good_line : (long : Bool) (total : ℕ) (text : List ℕ) → 0 < length (fields_of text) → 6 * length (fields_of text) < length text
    → get_or text (6 * length (fields_of text)) 0 ≡ 10
    → fault_after (long || ltb 256 (length (fields_of text))) (total + length (fields_of text)) (drop (6 * length (fields_of text) + 1) text)
    ≡ fault_after long total text
unfolding fault_after fault2 any_line count_all long_line
good_line long total [] some inside ends = let z : ⊥ = omega arith in absurd z
good_line long total (b ∷ text) some inside ends =
    let t = b ∷ text in
    let n = length (fields_of t) in
    let after = drop (6 * n + 1) t in
    let count : total + (n + count_all (fields_by_line after)) ≡ total + n + count_all (fields_by_line after) = omega arith in
    rw
    (lines_first b text, after_line t inside ends, whole_line t inside ends some, fields_first t, last_after t inside ends, count, regroup long (ltb 256 n) (any_line long_line (fields_by_line after)) (ltb 4096 (total + n + count_all (fields_by_line after))))

-- ---- a turn of the loop: at a line's start, with n the fields that stand there

module _ (text : List ℕ) (at total : ℕ) (long : Bool) (inv : fault_after long total (drop at text) ≡ lines_fault text) where
  module _ (inside : at < length text) (n : ℕ) (en : n ≡ length (fields_of (take (length text - at) (drop at text)))) where
    here : length (fields_of (drop at text)) ≡ n
    here = sym (en ∙ ap (λ (t : List ℕ). length (fields_of t)) (part_all text at))

    not_empty : drop at text ≢ []
    not_empty e = let l = length-drop at text in let z : length (drop at text) ≡ 0 = rw e in omega arith

    pub fault_none : n ≡ 0 → 2 ≡ lines_fault text
    fault_none h = bad_line long total (drop at text) not_empty (no_fields (drop at text) (here ∙ h)) ∙ inv

    pub fault_unended : (n ≡ 0 → ⊥) → length text ≤ at + 6 * n → 2 ≡ lines_fault text
    fault_unended some h =
        let l = length-drop at text in
        let none : beyond (drop at text) ≡ [] = rw here (drop_of_length-le (drop at text) {i = 6 * n} (omega arith)) in
        let all : drop at text ≡ written (fields_of (drop at text)) = split (drop at text) ∙ rw none (append-nil (written (fields_of (drop at text)))) in
        let fields : fields_of (drop at text) ≢ [] = λ e. some (sym here ∙ ap length e) in
        let last : last_of 10 (drop at text) ≢ 10 = rw all (last_written (fields_of (drop at text)) 10 fields) in
        no_end long total (drop at text) last ∙ inv

    module _ (some : n ≡ 0 → ⊥) (more : at + 6 * n < length text) where
      byte : get_or (drop at text) (6 * length (fields_of (drop at text))) 0 ≡ get_or text (at + 6 * n) 0
      byte = rw here (get_or-drop at text (6 * n) 0)

      inside_line : 6 * length (fields_of (drop at text)) < length (drop at text)
      inside_line = rw (here, length-drop at text) (omega arith)

      pub fault_broken : get_or text (at + 6 * n) 0 ≢ 10 → 2 ≡ lines_fault text
      fault_broken h =
          bad_line long total (drop at text) not_empty (not_whole (drop at text) inside_line (λ e. h (sym byte ∙ e))) ∙ inv

      pub fault_turn : get_or text (at + 6 * n) 0 ≡ 10
          → fault_after (long || ltb 256 n) (total + n) (drop (at + 6 * n + 1) text) ≡ lines_fault text
      fault_turn h =
          let place : at + (6 * n + 1) ≡ at + 6 * n + 1 = omega arith in
          let good = good_line long total (drop at text) (rw here (omega arith)) inside_line (byte ∙ h) in
          (rw (here, drop-drop (6 * n + 1) at text, place) at good) ∙ inv

  pub fault_end : length text ≤ at → cond (long || ltb 4096 total) 3 0 ≡ lines_fault text
  unfolding fault_after fault2 any_line lines_of last_of count_all
  fault_end h =
      let e : total + 0 ≡ total = omega arith in
      rw (drop_of_length-le text h, e) at inv

  pub fault_long : length text ≤ at → long ≡ true → 3 ≡ lines_fault text
  fault_long h e = rw e at (fault_end h)

  pub fault_many : length text ≤ at → long ≡ false → 4096 < total → 3 ≡ lines_fault text
  fault_many h e l = rw (e, lt-ltb 4096 total l) at (fault_end h)

  pub fault_free : length text ≤ at → long ≡ false → total ≤ 4096 → 0 ≡ lines_fault text
  fault_free h e l = rw (e, le-ltb 4096 total l) at (fault_end h)

-- a line's fields end within the text
pub line_within : (text : List ℕ) (at n : ℕ) → n ≡ length (fields_of (take (length text - at) (drop at text))) → 6 * n ≤ length text - at
line_within text at n e =
    let m : n ≡ length (fields_of (drop at text)) = e ∙ ap (λ (t : List ℕ). length (fields_of t)) (part_all text at) in
    omega (arith, fields_within (drop at text), length-drop at text)
