-- The fault that loading gives is the first in the order of faults that is anywhere in the text (`lowest_fault`), and none is given exactly
-- to a design text (`free_exactly`).
use Prim.Native.Nat.{ℕ, ◌≤◌}
use mathlib.Core.Path.{◌≡◌, refl}
use mathlib.Core.Logic.{◌≢◌, ◌↔◌}
use mathlib.Core.Bool.{Bool, true, false, cond}
use mathlib.Core.List.{List, [], ◌∷◌}
use native.Mathlib.Omega.{arith}
use borrow.Author.Tests.{eqb-true, eqb-false}
use lib.Dec.{eqb}
use Rattle.foundation.specs.Lowest.{First, here, past}
use Rattle.foundation.proofs.Reflects.{says_yes, by_value}
use Rattle.reader.specs.Text.{fields_by_line, Fault1, Fault2, Fault3, ColumnsFault, columns_fault}
use Rattle.reader.specs.Text as text
use Rattle.reader.proofs.Faults.{columns_lowest, ColumnsFree, columns_free}
use Rattle.kinds.specs.Kinds.{whole_text}
use Rattle.design.specs.Lines.{count_of, internal_of, design_of}
use Rattle.design.specs.Faults.{Fault4, Fault5, Fault6, Fault, first, second, third, fourth, fifth, sixth, seventh, LowestFault, DesignText}
use Rattle.design.specs.Tests.{layout_fits, bounds_fit}
use Rattle.design.proofs.Each.{by_each_line, some_line}
use Rattle.design.proofs.Fault4.{by_layout, has_fault4}
use Rattle.design.proofs.Fault5.{by_bounds, has_fault5}
use Rattle.line_check.proofs.LineFits.{no_fault6, fault6_at}
use Rattle.action_check.specs.ActionsFit.{actions_fit}
use Rattle.action_check.proofs.ActionsFit.{by_actions, has_fault7}
use Rattle.loader.specs.Load.{line_test, terms_fit_all, table_fault, fault_of}

-- ---- a fault's number says which it is

module _ {t : List ℕ} where
  no_1 : (Fault1 t → ⊥) → Fault t 1 → ⊥
  no_1 n (first f) = n f

  no_2 : (Fault2 t → ⊥) → Fault t 2 → ⊥
  no_2 n (second f) = n f

  no_3 : (Fault3 t → ⊥) → Fault t 3 → ⊥
  no_3 n (third f) = n f

  no_4 : (Fault4 whole_text (fields_by_line t) → ⊥) → Fault t 4 → ⊥
  no_4 n (fourth f) = n f

  no_5 : (Fault5 (fields_by_line t) → ⊥) → Fault t 5 → ⊥
  no_5 n (fifth f) = n f

  no_6 : (Fault6 (fields_by_line t) → ⊥) → Fault t 6 → ⊥
  no_6 n (sixth f) = n f

-- ---- faults 4 to 7 of lines, as the tests say

-- fault 6 is absent where each line passes, and there where one does not
no_terms_fault : (lines : List (List ℕ)) → terms_fit_all lines ≡ true → Fault6 lines → ⊥
no_terms_fault lines e =
    no_fault6 lines (says_yes (by_each_line _ (line_test (count_of 1 lines) (count_of 2 lines) (internal_of lines)) (λ line. by_value (line_test (count_of 1 lines) (count_of 2 lines) (internal_of lines) line)) lines) e)

terms_fault : (lines : List (List ℕ)) → terms_fit_all lines ≡ false → Fault6 lines
terms_fault lines e = let s = some_line (line_test (count_of 1 lines) (count_of 2 lines) (internal_of lines)) lines e in fault6_at lines s.among s.fails

-- what loading gives: the first fault, or none at all
data Settled (t : List ℕ) : ℕ → Type 0 where
  given : {k : ℕ} → LowestFault t k → Settled t k
  free : DesignText t → Settled t 0

module _ (t : List ℕ) (columns : ColumnsFree t) where
  abbrev lines : List (List ℕ)
  lines = fields_by_line t

  -- a fault of the lines comes after those of the columns
  of_lines : {k : ℕ} → First (Fault t) (4 ∷ 5 ∷ 6 ∷ 7 ∷ []) k → Settled t k
  of_lines f = given (past (no_1 columns.first) (past (no_2 columns.second) (past (no_3 columns.third) f)))

  -- by the four tests
  table : (a b c d : Bool) → layout_fits whole_text lines ≡ a → bounds_fit lines ≡ b → terms_fit_all lines ≡ c → actions_fit (design_of lines) ≡ d
      → Settled t (cond a (cond b (cond c (cond d 0 7) 6) 5) 4)
  table false b c d ea eb ec ed = of_lines (here (fourth (has_fault4 whole_text lines ea)))
  table true b c d ea eb ec ed = after_4 b c d eb ec ed
    where
      no4 : Fault4 whole_text lines → ⊥
      no4 = says_yes (by_layout whole_text lines) ea

      after_4 : (b c d : Bool) → bounds_fit lines ≡ b → terms_fit_all lines ≡ c → actions_fit (design_of lines) ≡ d
          → Settled t (cond b (cond c (cond d 0 7) 6) 5)
      after_4 false c d eb ec ed = of_lines (past (no_4 no4) (here (fifth (has_fault5 lines eb))))
      after_4 true false d eb ec ed = of_lines (past (no_4 no4) (past (no_5 (says_yes (by_bounds lines) eb)) (here (sixth (terms_fault lines ec)))))
      after_4 true true false eb ec ed =
          of_lines
          (past (no_4 no4) (past (no_5 (says_yes (by_bounds lines) eb)) (past (no_6 (no_terms_fault lines ec)) (here (seventh (has_fault7 (design_of lines) ed))))))
      after_4 true true true eb ec ed = free none
        where
          none : (k : ℕ) → Fault t k → ⊥
          none k (first f) = columns.first f
          none k (second f) = columns.second f
          none k (third f) = columns.third f
          none k (fourth f) = no4 f
          none k (fifth f) = says_yes (by_bounds lines) eb f
          none k (sixth f) = no_terms_fault lines ec f
          none k (seventh f) = says_yes (by_actions (design_of lines)) ed f

-- a fault of the columns comes before those of the lines
columns_by : (t : List ℕ) {k : ℕ} → ColumnsFault t k → k ≢ 0 → Settled t k
columns_by t (text.first f) z = given (here (first f))
columns_by t (text.second a f) z = given (past (no_1 a) (here (second f)))
columns_by t (text.third a b f) z = given (past (no_1 a) (past (no_2 b) (here (third f))))
columns_by t (text.free a b c) z = absurd (z refl)

settled : (t : List ℕ) → Settled t (fault_of t)
unfolding fault_of table_fault
settled t = go (eqb (columns_fault t) 0) refl
  where
    go : (none : Bool) → eqb (columns_fault t) 0 ≡ none → Settled t (cond none (table_fault (fields_by_line t)) (columns_fault t))
    go true e = table t (columns_free t (eqb-true (columns_fault t) 0 e)) _ _ _ _ refl refl refl refl
    go false e = columns_by t (columns_lowest t) (eqb-false (columns_fault t) 0 e)

-- ---- so

settled_lowest : {t : List ℕ} {k : ℕ} → Settled t k → k ≢ 0 → LowestFault t k
settled_lowest (given f) z = f
settled_lowest (free b) z = absurd (z refl)

-- "The lowest of 1 to 7 whose fault is anywhere in the text is given"
pub lowest_fault : (t : List ℕ) → fault_of t ≢ 0 → LowestFault t (fault_of t)
lowest_fault t z = settled_lowest (settled t) z

-- it is in the text, and 1 to 7
found : {t : List ℕ} {k : ℕ} {ks : List ℕ} → First (Fault t) ks k → Fault t k
found (here f) = f
found (past n f) = found f

pub fault_number : {t : List ℕ} {k : ℕ} → Fault t k → (1 ≤ k) × (k ≤ 7)
fault_number (first f) = (omega arith, omega arith)
fault_number (second f) = (omega arith, omega arith)
fault_number (third f) = (omega arith, omega arith)
fault_number (fourth f) = (omega arith, omega arith)
fault_number (fifth f) = (omega arith, omega arith)
fault_number (sixth f) = (omega arith, omega arith)
fault_number (seventh f) = (omega arith, omega arith)

settled_free : {t : List ℕ} {k : ℕ} → Settled t k → k ≡ 0 → DesignText t
settled_free (given f) e = let h = (fault_number (found f)).0 in absurd (omega arith)
settled_free (free d) e = d

free_settled : {t : List ℕ} {k : ℕ} → Settled t k → DesignText t → k ≡ 0
free_settled (given {k = k} f) d = absurd (d k (found f))
free_settled (free b) d = refl

-- a text gets no fault exactly if it is a design text
pub free_exactly : (t : List ℕ) → (fault_of t ≡ 0) ↔ DesignText t
free_exactly t = (settled_free (settled t), free_settled (settled t))

pub fault_at_most : (t : List ℕ) → fault_of t ≢ 0 → fault_of t ≤ 7
fault_at_most t z = (fault_number (found (lowest_fault t z))).1
