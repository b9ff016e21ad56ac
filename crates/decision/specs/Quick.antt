-- Whether a state passes, with no word on where it fails: one look at each row and sum value, all criteria at once, in any order.
-- It says whether `first_failing` passes (proofs/Quick), so that only a state that fails has to be searched.
use Rattle.std.specs.Prelude.{Bool, ◌&&◌, ℕ}
use Rattle.criteria.specs.Design.{Design, Row, State}
use Rattle.decision.specs.Tests.{all_rows, holds2, holds3, holds4, holds5, holds6, holds7, holds8, holds9}

-- criteria 3, 4, 5, 6, 8, 9 at row k of the implementation, for a sum value
abbrev pub row_holds : Design → State → ℕ → Row → ℕ → Bool
row_holds d s k r e = holds3 d s r e && (holds4 d s r e && (holds5 d s k r e && (holds6 d s r e && (holds8 d s r e && holds9 d s r e))))

abbrev pub state_holds : Design → State → Bool
state_holds d s = holds2 d s && (all_rows d.impl.rows (row_holds d s) && all_rows d.spec.rows (λ _. holds7 d s))
