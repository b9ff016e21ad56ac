-- What loading a text comes to: its lowest fault, or the arrays that hold its lines.
-- The faults are said in design/specs/Faults; here they are tests, in the order of their numbers, and the first one found is the
-- lowest anywhere in the text (proofs/Lowest).
use Rattle.std.specs.Prelude.{ℕ, ◌≤◌, ◌≡◌, Bool, cond, List, eqb, length, Result, Ok, Err}
use Rattle.limits.specs.Limits.{max_lines}
use Rattle.verdicts.specs.declared.Fault.{Fault}
use Rattle.verdicts.specs.Refusals.{fault_by}
use Rattle.reader.specs.Text.{fields_by_line, columns_fault}
use Rattle.kinds.specs.Kinds.{whole_text}
use Rattle.design.specs.Lines.{kind_of, count_of, counts_of, internal_of, design_of}
use Rattle.design.specs.Loaded.{fields_held, starts_held}
use Rattle.design.specs.Tests.{each_line_is, layout_fits, bounds_fit}
use Rattle.design.specs.declared.Counts.{Counts}
use Rattle.design.specs.declared.Shape.{Shape}
use Rattle.marks.specs.Marks.{internal_in}
use Rattle.line_check.specs.LineFits.{line_fits}
use Rattle.action_check.specs.ActionsFit.{actions_fit}
use Rattle.loader.specs.declared.Loaded.{Loaded}

-- how many rows of the implementation are internal, where its lines stand so
abbrev pub internal_with : List ℕ → List ℕ → Shape → ℕ
internal_with fields starts h = internal_in fields starts h.implementation h.implementation.rows.count

-- a line is the terms of its kind
abbrev pub line_test : ℕ → ℕ → ℕ → List ℕ → Bool
line_test n m i line = line_fits n m i line (kind_of line)

abbrev pub terms_fit_all : List (List ℕ) → Bool
terms_fit_all lines = each_line_is (line_test (count_of 1 lines) (count_of 2 lines) (internal_of lines)) lines

-- the lowest of 4 to 7, or 0
unfoldable pub table_fault : List (List ℕ) → ℕ
table_fault lines =
    cond (layout_fits whole_text lines) (cond (bounds_fit lines) (cond (terms_fit_all lines) (cond (actions_fit (design_of lines)) 0 7) 6) 5) 4

-- the lowest of 1 to 7, or 0
unfoldable pub fault_of : List ℕ → ℕ
fault_of text = cond (eqb (columns_fault text) 0) (table_fault (fields_by_line text)) (columns_fault text)

-- the lines in the arrays
abbrev pub held_by : List (List ℕ) → Loaded
held_by lines = record { lines = record { fields = fields_held lines; starts = starts_held lines }; counts = counts_of lines }

-- no fault, and the lines in the arrays; or the lowest fault
unfoldable pub loaded_of : List ℕ → Result Loaded Fault
loaded_of text = cond (eqb (fault_of text) 0) (Ok (held_by (fields_by_line text))) (Err (fault_by (fault_of text)))

-- arrays that hold a text's lines, as far as the code knows when it looks for faults 4 to 7
pub record Holds (text fields starts : List ℕ) (n : ℕ) (c : Counts) : Type 0 where
  pub free : columns_fault text ≡ 0
  pub fields_held_lem : fields ≡ fields_held (fields_by_line text)
  pub starts_held_lem : starts ≡ starts_held (fields_by_line text)
  pub lines_all : n ≡ length (fields_by_line text)
  pub few : n ≤ max_lines
  pub counts_all : c ≡ counts_of (fields_by_line text)
