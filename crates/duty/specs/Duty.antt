-- What is told of a text and a duty: whether the specification that the one says is that of the other, line by line and field by field. The
-- test is that of equal lists (`by_specification` in proofs/Same).
use Rattle.std.specs.Prelude.{ℕ, Bool, true, false, cond, ◌&&◌, List, [], ◌∷◌, eqb}
use Rattle.foundation.specs.Radix.{same_b}
use Rattle.reader.specs.Text.{fields_by_line}
use Rattle.design.specs.Lines.{of_kind}
use Rattle.loader.specs.Load.{fault_of}

-- as many lines, and each with the other's fields
abbrev pub lines_agree : List (List ℕ) → List (List ℕ) → Bool
lines_agree [] [] = true
lines_agree [] (due ∷ more) = false
lines_agree (line ∷ lines) [] = false
lines_agree (line ∷ lines) (due ∷ more) = same_b line due && lines_agree lines more

-- the specification's lines: its parameters and its rows
abbrev pub same_specification : List (List ℕ) → List (List ℕ) → Bool
same_specification lines due = lines_agree (of_kind 2 lines) (of_kind 2 due) && lines_agree (of_kind 4 lines) (of_kind 4 due)

-- 0 the same, 1 something differs, 2 the text is no design text, 3 the duty is none
unfoldable pub duty_told : List ℕ → List ℕ → ℕ
duty_told text duty =
    cond (eqb (fault_of text) 0) (cond (eqb (fault_of duty) 0) (cond (same_specification (fields_by_line text) (fields_by_line duty)) 0 1) 3) 2
