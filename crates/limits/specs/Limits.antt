-- The limits of a design text, in the words of 01. The faults (reader/specs/Text, design/specs/Faults) and the desk's associated
-- constants (desk/specs/Limits) speak of these.
use Rattle.std.specs.Prelude.{ℕ}

-- "Text longer than 28,672 bytes."
abbrev pub max_bytes : ℕ
max_bytes = 28672

-- "More than 256 fields in a line or 4,096 in all."
abbrev pub max_line_fields : ℕ
max_line_fields = 256

abbrev pub max_fields : ℕ
max_fields = 4096

-- "the deepest term allowed has depth 32"
abbrev pub max_depth : ℕ
max_depth = 32

-- kinds 1 and 2: "1 to 8" lines
abbrev pub max_parameters : ℕ
max_parameters = 8

-- kinds 3 and 4: "0 to 32" lines
abbrev pub max_rows : ℕ
max_rows = 32

-- "spans at most 256"
abbrev pub max_span : ℕ
max_span = 256

-- "The product of the kind 1 sizes is at most 65,536."
abbrev pub max_states : ℕ
max_states = 65536

-- ---- what follows

-- the lines of a text: parameters and rows of two processes, and kinds 5 to 8
abbrev pub max_lines : ℕ
max_lines = 84

-- the starts of lines that are kept: one for each, and the end of the last
abbrev pub line_starts : ℕ
line_starts = 85
