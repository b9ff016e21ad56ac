-- Laws of a text's lines (specs/Text). The first line of a text, and the lines after it (`lines_first`); where fields stand one after
-- the other, they are those of the first line (`first_line_lem`), and it is whole if a byte 10 follows them (`whole_line`).
use Prim.Native.Nat.{ℕ, suc, ◌+◌, ◌*◌, ◌%◌, ◌<◌}
use mathlib.Core.Path.{◌≡◌, refl, sym, ap, ◌∙◌}
use mathlib.Core.Logic.{◌≢◌}
use mathlib.Core.Bool.{Bool, true, false, cond, and-false}
use mathlib.Core.List.{List, [], ◌∷◌, ◌++◌, append-nil, append_assoc, nil≢cons}
use native.Mathlib.Omega.{arith}
use native.Mathlib.Numerals.{add-one}
use borrow.Author.Tests.{lt-ltb, eq-eqb, ne_eqb}
use lib.Dec.{eqb}
use lib.ListN.{length, get_or, take, drop, length-append, length-take, take-append-drop}
use lib.Seq.{drop-length, drop-cons, take-take}
use Rattle.columns.specs.Columns.{column_of, columns_of, field_of}
use Rattle.reader.specs.Line.{written, fields_from, fields_of}
use Rattle.reader.specs.Text.{lines_of, last_of, is_line}
use Rattle.std.specs.Prelude.{Option, Some, None}
use Rattle.columns.proofs.Columns.{is_field, six, length_columns, no_line_end}
use Rattle.reader.proofs.Line.{first_field, no_field, rest_fields, fields_written, begins}

-- ---- the first line, up to a byte 10, and what follows that byte

unfoldable pub first_line : List ℕ → List ℕ
first_line [] = []
first_line (b ∷ text) = cond (eqb b 10) [] (b ∷ first_line text)

abbrev pub rest_after_line : List ℕ → List ℕ
rest_after_line text = drop (suc (length (first_line text))) text

lines_by : (b : ℕ) (text : List ℕ) (ends : Bool) → eqb b 10 ≡ ends
    → ((c : ℕ) (later : List ℕ) → text ≡ c ∷ later → lines_of text ≡ first_line text ∷ lines_of (rest_after_line text))
    → lines_of (b ∷ text) ≡ first_line (b ∷ text) ∷ lines_of (rest_after_line (b ∷ text))
unfolding lines_of first_line
lines_by b text true e ih = rw e
lines_by b [] false e ih = rw e
lines_by b (c ∷ text) false e ih = rw (e, ih c text refl)

pub lines_first : (b : ℕ) (text : List ℕ) → lines_of (b ∷ text) ≡ first_line (b ∷ text) ∷ lines_of (rest_after_line (b ∷ text))
lines_first b [] = lines_by b [] _ refl (λ c later e. let z : ◌≡◌ {A = ℕ} 0 1 = cc in let z' : ⊥ = omega arith in absurd z')
lines_first b (c ∷ text) = lines_by b (c ∷ text) _ refl (λ _ _ _. lines_first c text)

-- ---- no line ends inside a field

past_columns : (n : ℕ) (text : List ℕ) → first_line (columns_of n ++ text) ≡ columns_of n ++ first_line text
unfolding first_line columns_of
past_columns n text =
    rw
    (ne_eqb (column_of n 100000) 10 (no_line_end n 100000), ne_eqb (column_of n 10000) 10 (no_line_end n 10000), ne_eqb (column_of n 1000) 10 (no_line_end n 1000), ne_eqb (column_of n 100) 10 (no_line_end n 100), ne_eqb (column_of n 10) 10 (no_line_end n 10), ne_eqb (48 + n % 10) 10 (omega arith))

pub past_fields : (ns text : List ℕ) → first_line (written ns ++ text) ≡ written ns ++ first_line text
unfolding written
past_fields [] text = refl
past_fields (n ∷ ns) text =
    rw (append_assoc (columns_of n) (written ns) text, past_columns n (written ns ++ text), past_fields ns text, append_assoc (columns_of n) (written ns) (first_line text))

pub length_written : (ns : List ℕ) → length (written ns) ≡ 6 * length ns
unfolding written
length_written [] = refl
length_written (n ∷ ns) = rw (length-append (columns_of n) (written ns), length_columns n, length_written ns) (omega arith)

last_columns : (n b : ℕ) (text : List ℕ) → last_of b (columns_of n ++ text) ≡ last_of (48 + n % 10) text
unfolding last_of columns_of
last_columns n b text = refl

-- the last byte of fields is a digit
pub last_written : (ns : List ℕ) (b : ℕ) → ns ≢ [] → last_of b (written ns) ≢ 10
unfolding written last_of
last_written [] b some = absurd (some refl)
last_written (n ∷ []) b some = rw (last_columns n b []) (omega arith)
last_written (n ∷ m ∷ ns) b some =
    rw (last_columns n b (written (m ∷ ns))) (last_written (m ∷ ns) (48 + n % 10) (λ e. let z : ◌≡◌ {A = ℕ} 0 1 = cc in omega arith))

pub last_append : (xs : List ℕ) (b c : ℕ) (text : List ℕ) → last_of b (xs ++ c ∷ text) ≡ last_of c text
unfolding last_of
last_append [] b c text = refl
last_append (x ∷ xs) b c text = last_append xs x c text

-- ---- the fields of the first line are those that the text begins with

first_prefix : (text : List ℕ) → take (length (first_line text)) text ≡ first_line text
unfolding first_line
first_prefix [] = refl
first_prefix (b ∷ text) = go (eqb b 10) (first_prefix text)
  where
    go : (ends : Bool) → take (length (first_line text)) text ≡ first_line text
        → take (length (cond ends [] (b ∷ first_line text))) (b ∷ text) ≡ cond ends [] (b ∷ first_line text)
    go true ih = refl
    go false ih = rw ih

none_by : (text : List ℕ) (f : Option ℕ) → field_of (take 6 (first_line text)) ≡ f → fields_of text ≡ [] → f ≡ None
none_by text None e h = refl
none_by text (Some n) e h =
    let l = rw (length-take 6 (first_line text)) at (six (is_field (take 6 (first_line text)) n e)) in
    let same : take 6 (first_line text) ≡ take 6 text =
    rw (← first_prefix text) (take-take 6 (length (first_line text)) text (omega arith))
    in
    let first = rw same at e in
    let z : [] ≡ n ∷ fields_of (drop 6 text) = sym h ∙ first_field text n first in
    absurd (nil≢cons z)

none_first : (text : List ℕ) → fields_of text ≡ [] → fields_of (first_line text) ≡ []
none_first text h = no_field (first_line text) (none_by text _ refl h)

module _ (text : List ℕ) where
  -- what follows the fields
  abbrev pub beyond : List ℕ
  beyond = drop (6 * length (fields_of text)) text

  pub split : text ≡ written (fields_of text) ++ beyond
  split = rw (← (begins text).prefix) (sym (take-append-drop (6 * length (fields_of text)) text))

  pub first_line_lem : first_line text ≡ written (fields_of text) ++ first_line beyond
  first_line_lem = ap first_line split ∙ past_fields (fields_of text) beyond

  none_beyond : fields_of beyond ≡ []
  none_beyond = rest_fields (length (fields_of text)) text (omega arith) ∙ drop-length (fields_of text)

  pub fields_first : fields_of (first_line text) ≡ fields_of text
  fields_first =
      ap fields_of first_line_lem ∙ (fields_written (fields_of text) (first_line beyond) (begins text).each ∙ (rw (none_first beyond none_beyond) (append-nil (fields_of text))))

  length_first : length (first_line text) ≡ 6 * length (fields_of text) + length (first_line beyond)
  length_first =
      ap length first_line_lem ∙ rw (length-append (written (fields_of text)) (first_line beyond), length_written (fields_of text))

  -- ---- whether the first line is whole fields

  pub no_fields : length (fields_of text) ≡ 0 → is_line (first_line text) ≡ false
  unfolding is_line
  no_fields h = rw (fields_first, h) (and-false (eqb (6 * 0) (length (first_line text))))

  module _ (inside : 6 * length (fields_of text) < length text) where
    beyond_is : beyond ≡ get_or text (6 * length (fields_of text)) 0 ∷ drop (suc (6 * length (fields_of text))) text
    beyond_is = drop-cons text (6 * length (fields_of text)) 0 inside

    pub not_whole : get_or text (6 * length (fields_of text)) 0 ≢ 10 → is_line (first_line text) ≡ false
    unfolding is_line first_line
    not_whole h =
        let c = get_or text (6 * length (fields_of text)) 0 in
        let l : length (first_line beyond) ≡ suc (length (first_line (drop (suc (6 * length (fields_of text))) text))) =
        rw (beyond_is, ne_eqb c 10 h)
        in
        let m = length_first in
        rw (fields_first, ne_eqb (6 * length (fields_of text)) (length (first_line text)) (omega arith))

    module _ (ends : get_or text (6 * length (fields_of text)) 0 ≡ 10) where
      ended : first_line beyond ≡ []
      unfolding first_line
      ended = rw (beyond_is, ends)

      pub line_written : first_line text ≡ written (fields_of text)
      line_written = first_line_lem ∙ rw ended (append-nil (written (fields_of text)))

      pub whole_line : 0 < length (fields_of text) → is_line (first_line text) ≡ true
      unfolding is_line
      whole_line some =
          rw (fields_first, line_written, length_written (fields_of text), eq-eqb (6 * length (fields_of text)) _ refl, lt-ltb 0 (length (fields_of text)) some)

      pub after_line : rest_after_line text ≡ drop (6 * length (fields_of text) + 1) text
      after_line = rw (line_written, length_written (fields_of text), add-one (6 * length (fields_of text)))

      pub last_after : last_of 10 text ≡ last_of 10 (drop (6 * length (fields_of text) + 1) text)
      last_after =
          ap (λ (t : List ℕ). last_of 10 t) split ∙ rw (beyond_is, ends, add-one (6 * length (fields_of text))) (last_append (written (fields_of text)) 10 10 _)

-- no field begins with a byte 10
pub line_end_none : (text : List ℕ) → fields_of (10 ∷ text) ≡ []
unfolding first_line fields_of fields_from
line_end_none text = sym (fields_first (10 ∷ text))
