-- A line in a desk's arrays as a text, and how long the text of lines is, by their starts alone; that this is its length is in proofs/Length.
use Rattle.std.specs.Prelude.{ℕ, zero, suc, ◌+◌, ◌-◌, ◌*◌, min, List, [], ◌∷◌, get_or, take, drop}
use Rattle.limits.specs.Limits.{max_fields}
use Rattle.reader.specs.Text.{text_of}

-- the fields from one place to another
abbrev pub fields_from : List ℕ → ℕ → ℕ → List ℕ
fields_from fields from to = take (to - from) (drop from fields)

-- these as a text of one line
abbrev pub line_text : List ℕ → ℕ → ℕ → List ℕ
line_text fields from to = text_of (fields_from fields from to ∷ [])

-- how many these fields are: no more than there are in the array
abbrev pub between : ℕ → ℕ → ℕ
between from to = min to max_fields - from

-- a line of them: six columns each, and byte 10
abbrev pub line_bytes : ℕ → ℕ → ℕ
line_bytes from to = 6 * between from to + 1

-- n lines from line i on
unfoldable pub bytes_from : List ℕ → ℕ → ℕ → ℕ
bytes_from starts zero i = 0
bytes_from starts (suc n) i = line_bytes (get_or starts i 0) (get_or starts (i + 1) 0) + bytes_from starts n (suc i)

abbrev pub bytes_in : List ℕ → ℕ → ℕ
bytes_in starts n = bytes_from starts n 0
