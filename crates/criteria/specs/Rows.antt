-- Rows and their marks by the row's number as functions, and the search for a marked step, as they compute. Nothing in the criteria is
-- said with these: they serve the tests (crate decision) and the proofs.
use Rattle.std.specs.Prelude.{Bool, true, ◌&&◌, List, [], ◌∷◌, ℕ, suc, ◌-◌, length, get_or, take, eqb}
use Rattle.foundation.specs.First.{Outcome}
use Rattle.foundation.specs.Trial.{first_place}
use Rattle.terms.specs.Tree.{Formula, num, const, no_formula, eval_f}
use Rattle.criteria.specs.Design.{Design, Row, State}
use Rattle.criteria.specs.Step.{internal_rows}

-- a row without sum values: it is never enabled
abbrev pub no_row : Row
no_row = record { action = 0; span = 0; condition = no_formula; carries = num 0; next = [] }

-- row number k, counted from 1; where there is none, `no_row`
abbrev pub row_at : List Row → ℕ → Row
row_at rows k = get_or (no_row ∷ rows) k no_row

-- the formula of an internal row that has n internal rows before it, and of row k, if it is internal
abbrev pub mark_by : List (List Formula) → ℕ → Formula
mark_by [] n = const true
mark_by (formulas ∷ _) n = get_or formulas n no_formula

abbrev pub mark_of : Design → ℕ → Formula
mark_of d k = mark_by d.marks (internal_rows (take (k - 1) d.impl.rows))

-- the rows and sum values of a process, in order: the first at which a test says yes, of the row's number, the row and the sum value
abbrev pub first_row : {A : Type 0} → List Row → (ℕ → Row → ℕ → Bool) → (ℕ → ℕ → A) → Outcome A
first_row rows test name = first_place (suc (length rows)) (λ k. (row_at rows k).span) (λ k e. test k (row_at rows k) e) name

-- an internal row's condition holds, and its mark
abbrev pub marked_test : Design → State → ℕ → Row → ℕ → Bool
marked_test d s k r e = eqb r.action 0 && (eval_f r.condition s e && eval_f (mark_of d k) s e)

-- the first row with a marked step at s, and the sum value
abbrev pub first_marked : Design → State → Outcome (ℕ × ℕ)
first_marked d s = first_row d.impl.rows (marked_test d s) (λ k e. (k, e))
