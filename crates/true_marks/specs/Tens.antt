-- Whether the fields of the line of marks are 10, in a desk's arrays.
use Rattle.std.specs.Prelude.{ℕ, zero, suc, ◌+◌, ◌-◌, Bool, true, cond, ◌&&◌, List, eqb, get_or}
use Rattle.design.specs.declared.Shape.{Shape}

-- n fields from a place on are all 10
unfoldable pub tens : List ℕ → ℕ → ℕ → Bool
tens fields at zero = true
tens fields at (suc n) = eqb (get_or fields at 0) 10 && tens fields (suc at) n

abbrev pub tens_from : List ℕ → ℕ → ℕ → Bool
tens_from fields from to = tens fields from (to - from)

-- the fields behind the kind of the line of marks are all 10; true where there is no such line
unfoldable pub tens_in : List ℕ → List ℕ → Shape → Bool
tens_in fields starts h =
    cond (eqb h.marks.count 0) true (tens_from fields (get_or starts h.marks.first 0 + 1) (get_or starts (h.marks.first + 1) 0))
