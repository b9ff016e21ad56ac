-- Unmarked texts to marked and back (02, order 2): which design is written for which, and when a call is turned down, with which number. A
-- result is said by the printing of a design (design/specs/Print). What a call answers and writes, by these, is in Answer.
use Rattle.std.specs.Prelude.{ℕ, ◌<◌, ◌≡◌, ◌≢◌, true, length, replicate}
use mathlib.Core.List.{List, [], ◌∷◌, ◌++◌, Memᴰ}
use Rattle.limits.specs.Limits.{max_fields}
use Rattle.foundation.specs.Lowest.{First}
use Rattle.terms.specs.Tree.{Formula, const}
use Rattle.terms.specs.Print.{print_f}
use Rattle.reader.specs.Text.{count_all, text_of}
use Rattle.criteria.specs.Design.{Design, with_marks}
use Rattle.criteria.specs.Step.{internal_rows}
use Rattle.design.specs.Lines.{design_text}
use Rattle.design.specs.Faults.{Fault, fault_order}
use Rattle.design.specs.Print.{print_lines}

-- to a marked text, and back to an unmarked one
pub data Way : Type 0 where
  there back : Way

-- "a text without kind 8 into one with it, each formula being `10`": one for each of n internal rows; "A text already of the wanted sort is
-- copied"
abbrev pub marked_by : List (List Formula) → ℕ → List (List Formula)
marked_by [] n = replicate n (const true) ∷ []
marked_by (formulas ∷ more) n = formulas ∷ more

-- "and back": without the line
abbrev pub converted : Way → Design → Design
converted there d = with_marks d (marked_by d.marks (internal_rows d.impl.rows))
converted back d = with_marks d []

-- what is written for a design text
abbrev pub result_of : Way → List ℕ → List ℕ
result_of way text = text_of (print_lines (converted way (design_text text)))

-- ---- turned down

-- 15: "a formula other than `10`", by its fields
pub data OtherFormula (d : Design) : Type 0 where
  other : {formulas : List Formula} {f : Formula} → Memᴰ formulas d.marks → Memᴰ f formulas → print_f f ≢ 10 ∷ [] → OtherFormula d

-- 16: "a result longer than the buffer", of so many bytes, "or over 4,096 fields"
pub data TooLong (room : ℕ) (d : Design) : Type 0 where
  bytes : room < length (text_of (print_lines d)) → TooLong room d
  fields : max_fields < count_all (print_lines d) → TooLong room d

-- number k is due to a text and a buffer of so many bytes
pub data Refused (way : Way) (text : List ℕ) (room : ℕ) : ℕ → Type 0 where
  fault : {k : ℕ} → Fault text k → Refused way text room k
  -- "on the way back only"
  formula : way ≡ back → OtherFormula (design_text text) → Refused way text room 15
  long : TooLong room (converted way (design_text text)) → Refused way text room 16

-- "after 1 to 7, on the way back only, 15 ..; then 16": the first in this order is given
abbrev pub answer_order : List ℕ
answer_order = fault_order ++ (15 ∷ 16 ∷ [])

abbrev pub TurnedDown : Way → List ℕ → ℕ → ℕ → Type 0
TurnedDown way text room k = First (Refused way text room) answer_order k
