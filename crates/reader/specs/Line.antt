-- The fields of a line's bytes, from the left (01, "Design text": "A line is one or more fields of six columns").
-- Of bytes that are not whole fields `fields_of` gives those that they begin with. A part of a line that starts after its k-th field
-- has just the later fields (proofs/Line): so the rest of a line after a term can be handed on as a part.
-- Last, the reader of a line: at one of its fields, and moved on.
use Rattle.std.specs.Prelude.{ℕ, zero, suc, ◌+◌, ◌*◌, ◌/◌, ◌<◌, ◌≡◌, ◌≢◌, List, [], ◌∷◌, ◌++◌, length, take, drop, Option, Some, None}
use Rattle.columns.specs.Columns.{columns_of, field_of}
use Rattle.std.specs.Borrow.{Bor}
use Rattle.reader.specs.declared.LineReader.{LineReader}
use Rattle.reader.specs.declared.Next.{Next}

-- fields one after the other
unfoldable pub written : List ℕ → List ℕ
written [] = []
written (n ∷ ns) = columns_of n ++ written ns

-- each is a number that a field can be
pub data Each16 : List ℕ → Type 0 where
  none : Each16 []
  more : {n : ℕ} {ns : List ℕ} → n < 65536 → Each16 ns → Each16 (n ∷ ns)

-- "A line is one or more fields of six columns", without its byte 10
pub record IsLine (line : List ℕ) : Type 0 where
  pub fields : List ℕ
  pub each : Each16 fields
  pub some : fields ≢ []
  pub whole : line ≡ written fields

-- the field in the k-th six columns, from 0
abbrev pub field_there : List ℕ → ℕ → Option ℕ
field_there bytes k = field_of (take 6 (drop (6 * k) bytes))

-- a field and those after it; no more where it is malformed
abbrev pub and_then : Option ℕ → List ℕ → List ℕ
and_then (Some n) later = n ∷ later
and_then None later = []

-- the fields that bytes begin with, at most k of them
unfoldable pub fields_from : ℕ → List ℕ → List ℕ
fields_from zero bytes = []
fields_from (suc k) bytes = let later = fields_from k (drop 6 bytes) in and_then (field_of (take 6 bytes)) later

-- the fields that bytes begin with
unfoldable pub fields_of : List ℕ → List ℕ
fields_of bytes = fields_from (length bytes / 6) bytes

-- ---- "While a line is checked, the reader is a read-only look at one line of the lent text, which advances field by field"

-- the reader of a line whose next field is the k-th
abbrev pub reader_at : Bor (List ℕ) → ℕ → LineReader
reader_at line k = record { line = line; at = k }

-- after the k-th field the next one is the one after it; where there is no field the reader stays
abbrev pub after : Option ℕ → ℕ → ℕ
after (Some n) k = k + 1
after None k = k

-- the place after the k-th
abbrev pub next_at : List ℕ → ℕ → ℕ
next_at bytes k = after (field_there bytes k) k

-- a reader's next field, and the reader moved on
abbrev pub next_of : LineReader → Next
next_of r =
    record { field = field_there r.line.now r.at; reader = reader_at r.line (next_at r.line.now r.at) }
