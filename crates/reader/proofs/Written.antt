-- A text without fault 2 is the writing of its fields, line by line (`text_written`), so two such texts with the same fields are the
-- same bytes (`same_text`); and what is written from lines of fields has no fault 2 and just these lines (`written_lines`,
-- `written_free`), six bytes for each field and one for each line (`text_length`).
use Prim.Native.Nat.{ℕ, suc, ◌+◌, ◌*◌}
use mathlib.Core.Path.{◌≡◌, refl, sym, ap, ◌∙◌}
use mathlib.Core.Logic.{◌≢◌, ◌⊎◌, inl, inr}
use mathlib.Core.Bool.{Bool, true, false, true≢false}
use mathlib.Core.List.Memᴰ
use mathlib.Core.List.{List, [], ◌∷◌, ◌++◌, map, append-nil, Memᴰ}
use native.Mathlib.Omega.{arith}
use borrow.Author.Tests.{eqb-true, eqb-false}
use lib.Dec.{eqb}
use lib.ListN.{length, drop, length-append}
use Rattle.reader.specs.Line.{written, Each16, IsLine, fields_of}
use Rattle.reader.specs.Text.{before, lines_of, last_of, fields_by_line, count_all, text_of, Lines, none, more, Fault2, broken, unended, is_line}
use Rattle.reader.proofs.Text.{first_line, lines_first, past_fields, length_written, last_append}
use Rattle.reader.proofs.Faults.{whole_fields, is_line_lem, line_is, fields_of_line}

-- ---- a text is its lines, each with its byte 10

ended : List (List ℕ) → List ℕ
ended [] = []
ended (line ∷ lines) = line ++ 10 ∷ ended lines

ended_before : (b c : ℕ) (text : List ℕ) → ended (before b (lines_of (c ∷ text))) ≡ b ∷ ended (lines_of (c ∷ text))
unfolding ended
ended_before b c text = rw (lines_first c text)

ended_by : (b : ℕ) (text : List ℕ) (ends : Bool) → eqb b 10 ≡ ends → last_of 10 (b ∷ text) ≡ 10
    → (last_of 10 text ≡ 10 → ended (lines_of text) ≡ text)
    → ended (lines_of (b ∷ text)) ≡ b ∷ text
unfolding lines_of last_of ended
ended_by b text true e h ih = let is = eqb-true b 10 e in rw (e, is, ih (rw is at h))
ended_by b [] false e h ih = absurd (eqb-false b 10 e h)
ended_by b (c ∷ text) false e h ih = rw (e, ended_before b c text, ih h)

lines_ended : (text : List ℕ) → last_of 10 text ≡ 10 → ended (lines_of text) ≡ text
unfolding lines_of ended
lines_ended [] h = refl
lines_ended (b ∷ text) h = ended_by b text _ refl h (lines_ended text)

-- ---- and each line is its fields

whole_by : (line : List ℕ) (whole : Bool) → is_line line ≡ whole → ((IsLine line → ⊥) → ⊥) → line ≡ written (fields_of line)
whole_by line true e h = whole_fields line e
whole_by line false e h = absurd (h (λ i. true≢false (sym (line_is line i) ∙ e)))

lines_written : (lines : List (List ℕ)) → ((line : List ℕ) → Memᴰ line lines → (IsLine line → ⊥) → ⊥)
    → text_of (map fields_of lines) ≡ ended lines
unfolding text_of ended
lines_written [] each = refl
lines_written (line ∷ lines) each =
    rw (← whole_by line _ refl (each line (Memᴰ.head refl)), lines_written lines (λ l m. each l (Memᴰ.tail m)))

last_by : (text : List ℕ) (ends : Bool) → eqb (last_of 10 text) 10 ≡ ends → (Fault2 text → ⊥) → last_of 10 text ≡ 10
last_by text true e free = eqb-true (last_of 10 text) 10 e
last_by text false e free = absurd (free (unended (eqb-false (last_of 10 text) 10 e)))

-- a text without fault 2 is the writing of its fields
pub text_written : (text : List ℕ) → (Fault2 text → ⊥) → text_of (fields_by_line text) ≡ text
text_written text free =
    lines_written (lines_of text) (λ line m h. free (broken m h)) ∙ lines_ended text (last_by text _ refl free)

-- so a text is determined by its fields
pub same_text : (s t : List ℕ) → (Fault2 s → ⊥) → (Fault2 t → ⊥) → fields_by_line s ≡ fields_by_line t → s ≡ t
same_text s t fs ft e = sym (text_written s fs) ∙ (ap text_of e ∙ text_written t ft)

-- and its lines have each one field or more
line_fields : (line : List ℕ) (whole : Bool) → is_line line ≡ whole → ((IsLine line → ⊥) → ⊥) → Each16 (fields_of line) × (fields_of line ≢ [])
line_fields line true e h =
    let i = is_line_lem line e in
    let same : fields_of line ≡ i.fields = ap fields_of i.whole ∙ fields_of_line i.fields i.each in
    rw same (i.each, i.some)
line_fields line false e h = absurd (h (λ i. true≢false (sym (line_is line i) ∙ e)))

each_fields : (lines : List (List ℕ)) → ((line : List ℕ) → Memᴰ line lines → (IsLine line → ⊥) → ⊥) → Lines (map fields_of lines)
each_fields [] each = none
each_fields (line ∷ lines) each =
    let f = line_fields line _ refl (each line (Memᴰ.head refl)) in
    more f.0 f.1 (each_fields lines (λ l m. each l (Memᴰ.tail m)))

pub text_lines_good : (text : List ℕ) → (Fault2 text → ⊥) → Lines (fields_by_line text)
text_lines_good text free = each_fields (lines_of text) (λ line m h. free (broken m h))

-- ---- what is written has just these lines

first_ended : (line text : List ℕ) → first_line (line ++ 10 ∷ text) ≡ line → lines_of (line ++ 10 ∷ text) ≡ line ∷ lines_of text
unfolding first_line
first_ended [] text e = lines_first 10 text
first_ended (b ∷ line) text e =
    lines_first b (line ++ 10 ∷ text) ∙ rw e (ap (λ (t : List ℕ). (b ∷ line) ∷ lines_of t) (drop_past line text))
  where
    drop_past : (line text : List ℕ) → drop (suc (length line)) (line ++ 10 ∷ text) ≡ text
    drop_past [] text = refl
    drop_past (c ∷ line) text = drop_past line text

first_written : (ns text : List ℕ) → first_line (written ns ++ 10 ∷ text) ≡ written ns
unfolding first_line
first_written ns text = past_fields ns (10 ∷ text) ∙ append-nil (written ns)

text_lines : (lines : List (List ℕ)) → lines_of (text_of lines) ≡ map written lines
unfolding text_of lines_of
text_lines [] = refl
text_lines (ns ∷ lines) = first_ended (written ns) (text_of lines) (first_written ns (text_of lines)) ∙ rw (text_lines lines)

fields_back : {lines : List (List ℕ)} → Lines lines → map fields_of (map written lines) ≡ lines
fields_back none = refl
fields_back (more {fields = ns} each some later) = rw (fields_of_line ns each, fields_back later)

-- its lines' fields are those given
pub written_lines : {lines : List (List ℕ)} → Lines lines → fields_by_line (text_of lines) ≡ lines
written_lines {lines} h = rw (text_lines lines) (fields_back h)

each_line : {lines : List (List ℕ)} {line : List ℕ} → Lines lines → Memᴰ line (map written lines) → IsLine line
each_line none m = absurd (Memᴰ.not-nil m)
each_line {line = line} (more {fields = ns} {lines = lines} each some later) m = go (Memᴰ.cases_cons m) (each_line later)
  where
    go : (line ≡ written ns) ⊎ Memᴰ line (map written lines) → (Memᴰ line (map written lines) → IsLine line) → IsLine line
    go (inl e) ih = record { fields = ns; each = each; some = some; whole = e }
    go (inr n) ih = ih n

text_ended : (lines : List (List ℕ)) → last_of 10 (text_of lines) ≡ 10
unfolding text_of last_of
text_ended [] = refl
text_ended (ns ∷ lines) = last_append (written ns) 10 10 (text_of lines) ∙ text_ended lines

-- and it has no fault 2
pub written_free : {lines : List (List ℕ)} → Lines lines → Fault2 (text_of lines) → ⊥
written_free {lines} h (broken {line = line} m b) = b (each_line h (rw (text_lines lines) at m))
written_free {lines} h (unended e) = e (text_ended lines)

-- how many bytes it is
pub text_length : (lines : List (List ℕ)) → length (text_of lines) ≡ 6 * count_all lines + length lines
unfolding text_of count_all
text_length [] = refl
text_length (ns ∷ lines) = rw (length-append (written ns) (10 ∷ text_of lines), length_written ns, text_length lines) (omega arith)
