-- The lines of a text, and the faults that its columns can have: 1, 2 and 3 of 01, "Turned down by the input".
-- Each fault is a statement about the text, and `ColumnsFault` says which of them is the lowest; `columns_fault` computes it, which is
-- proved in proofs/Faults. `text_of` is the text with given lines of fields: the only one (proofs/Written).
use Rattle.std.specs.Prelude.{ℕ, ◌+◌, ◌*◌, ◌<◌, ◌≢◌, Bool, false, cond, not, ◌&&◌, ◌||◌, eqb, ltb, length}
use mathlib.Core.List.{List, [], ◌∷◌, ◌++◌, map, Memᴰ}
use Rattle.limits.specs.Limits.{max_bytes, max_line_fields, max_fields}
use Rattle.reader.specs.Line.{written, Each16, IsLine, fields_of}

-- "A text is lines of bytes, each ended by byte 10." Each line is here without that byte; the last one may lack it.
abbrev pub before : ℕ → List (List ℕ) → List (List ℕ)
before b [] = (b ∷ []) ∷ []
before b (line ∷ lines) = (b ∷ line) ∷ lines

unfoldable pub lines_of : List ℕ → List (List ℕ)
lines_of [] = []
lines_of (b ∷ text) = cond (eqb b 10) ([] ∷ lines_of text) (before b (lines_of text))

-- the last byte; of no bytes, the one given
unfoldable pub last_of : ℕ → List ℕ → ℕ
last_of b [] = b
last_of b (c ∷ text) = last_of c text

-- the fields of each line
abbrev pub fields_by_line : List ℕ → List (List ℕ)
fields_by_line text = map fields_of (lines_of text)

-- how many fields lines have in all
unfoldable pub count_all : List (List ℕ) → ℕ
count_all [] = 0
count_all (fields ∷ lines) = length fields + count_all lines

-- the text that has these lines of fields
unfoldable pub text_of : List (List ℕ) → List ℕ
text_of [] = []
text_of (fields ∷ lines) = written fields ++ 10 ∷ text_of lines

-- lines that a text can have: each of one field or more
pub data Lines : List (List ℕ) → Type 0 where
  none : Lines []
  more : {fields : List ℕ} {lines : List (List ℕ)} → Each16 fields → fields ≢ [] → Lines lines → Lines (fields ∷ lines)

-- ---- the faults

-- 1. "Text longer than 28,672 bytes."
abbrev pub Fault1 : List ℕ → Type 0
Fault1 text = max_bytes < length text

-- 2. "A line that isn't whole fields, an empty line, or a last line without byte 10." (An empty line has not one field.)
pub data Fault2 (text : List ℕ) : Type 0 where
  broken : {line : List ℕ} → Memᴰ line (lines_of text) → (IsLine line → ⊥) → Fault2 text
  unended : last_of 10 text ≢ 10 → Fault2 text

-- 3. "More than 256 fields in a line or 4,096 in all."
pub data Fault3 (text : List ℕ) : Type 0 where
  long_line_lem : {fields : List ℕ} → Memᴰ fields (fields_by_line text) → max_line_fields < length fields → Fault3 text
  many : max_fields < count_all (fields_by_line text) → Fault3 text

-- the lowest of the three whose fault is in the text, 0 if none is
pub data ColumnsFault (text : List ℕ) : ℕ → Type 0 where
  first : Fault1 text → ColumnsFault text 1
  second : (Fault1 text → ⊥) → Fault2 text → ColumnsFault text 2
  third : (Fault1 text → ⊥) → (Fault2 text → ⊥) → Fault3 text → ColumnsFault text 3
  free : (Fault1 text → ⊥) → (Fault2 text → ⊥) → (Fault3 text → ⊥) → ColumnsFault text 0

-- ---- as tests

-- bytes are one or more whole fields
unfoldable pub is_line : List ℕ → Bool
is_line line = eqb (6 * length (fields_of line)) (length line) && ltb 0 (length (fields_of line))

unfoldable pub any_line : (List ℕ → Bool) → List (List ℕ) → Bool
any_line test [] = false
any_line test (line ∷ lines) = test line || any_line test lines

unfoldable pub fault2 : List ℕ → Bool
fault2 text = any_line (λ line. not (is_line line)) (lines_of text) || not (eqb (last_of 10 text) 10)

unfoldable pub fault3 : List ℕ → Bool
fault3 text = any_line (λ fields. ltb max_line_fields (length fields)) (fields_by_line text) || ltb max_fields (count_all (fields_by_line text))

-- the lower of 2 and 3 whose fault is in the text, or 0
unfoldable pub lines_fault : List ℕ → ℕ
lines_fault text = cond (fault2 text) 2 (cond (fault3 text) 3 0)

-- and of 1, 2 and 3
unfoldable pub columns_fault : List ℕ → ℕ
columns_fault text = cond (ltb max_bytes (length text)) 1 (lines_fault text)
