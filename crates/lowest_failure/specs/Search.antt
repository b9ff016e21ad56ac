-- What the answer of the search says, and the parts of the search: criterion 2, then of each of the criteria 3 to 9 its rows, of each its
-- sum values, by the tests of the crate decision. It is the search of decision/specs/Examine (proofs/Search).
use Rattle.std.specs.Prelude.{Bool, not, cond, ℕ, suc, eqb, Option, Some, None}
use Rattle.foundation.specs.First.{Outcome, pass, fail, fail_if, first_in, all_in_range}
use Rattle.foundation.specs.Trial.{Place, place}
use Rattle.criteria.specs.Design.{Design, Row, State}
use Rattle.criteria.specs.Rows.{row_at, marked_test}
use Rattle.decision.specs.Tests.{holds2, holds3, holds4, holds5, holds6, holds7, holds8, holds9}
use Rattle.design.specs.declared.Shape.{Shape}

-- the code's answer
abbrev pub told_place : Option Place → Outcome Place
told_place None = pass
told_place (Some x) = fail x

-- row k has no marked step for any sum value
unfoldable pub quiet_in : Design → State → ℕ → Bool
quiet_in d v k = let r : Row = row_at d.impl.rows k in all_in_range (λ e. not (marked_test d v k r e)) r.span 0

-- a test at row k of the implementation, also one by the row's number, and of the specification
unfoldable pub at_impl : (Design → State → Row → ℕ → Bool) → Design → State → ℕ → ℕ → Bool
at_impl holds d v k e = holds d v (row_at d.impl.rows k) e

unfoldable pub at_impl_by : (Design → State → ℕ → Row → ℕ → Bool) → Design → State → ℕ → ℕ → Bool
at_impl_by holds d v k e = holds d v k (row_at d.impl.rows k) e

unfoldable pub at_spec : (Design → State → Row → ℕ → Bool) → Design → State → ℕ → ℕ → Bool
at_spec holds d v k e = holds d v (row_at d.spec.rows k) e

-- criterion n for row k and the sum value e; the span of the row, and how many rows there are: "In criterion 7 the row is the
-- specification's."
unfoldable pub holds_for : Design → State → ℕ → ℕ → ℕ → Bool
holds_for d v n k e =
    cond (eqb n 3) (at_impl holds3 d v k e)
    (cond (eqb n 4) (at_impl holds4 d v k e)
    (cond (eqb n 5) (at_impl_by holds5 d v k e)
    (cond (eqb n 6) (at_impl holds6 d v k e)
    (cond (eqb n 7) (at_spec holds7 d v k e)
    (cond (eqb n 8) (at_impl holds8 d v k e)
    (at_impl holds9 d v k e))))))

-- criterion n of 2 to 9; in 2 row and sum value do not matter
unfoldable pub criterion_for : Design → State → ℕ → ℕ → ℕ → Bool
criterion_for d v n k e = cond (eqb n 2) (holds2 d v) (holds_for d v n k e)

unfoldable pub span_for : Design → ℕ → ℕ → ℕ
span_for d n k = cond (eqb n 7) (row_at d.spec.rows k).span (row_at d.impl.rows k).span

unfoldable pub rows_for : Shape → ℕ → ℕ
rows_for h n = cond (eqb n 7) h.specification.rows.count h.implementation.rows.count

unfoldable pub in_row : Design → State → ℕ → ℕ → Outcome Place
in_row d v n k = first_in (λ e. fail_if (not (holds_for d v n k e)) (place n k e)) (span_for d n k) 0

unfoldable pub in_all_rows : Shape → Design → State → ℕ → Outcome Place
in_all_rows h d v n = first_in (λ k. in_row d v n k) (suc (rows_for h n)) 0

unfoldable pub in_criteria : Shape → Design → State → Outcome Place
in_criteria h d v = first_in (λ n. in_all_rows h d v n) 7 3
