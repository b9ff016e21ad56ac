-- Criterion 10 as the code tries it, by any plan p: f the fields, s the starts of lines, h the shape, q a process; v the state. By the right plan
-- it is that of decision/specs/Tests (proofs/Decided).
use Rattle.std.specs.Prelude.{Bool, ◌&&◌, ◌||◌, List, ℕ, ◌+◌, eqb, get_or, drop}
use Rattle.foundation.specs.First.{all_in_range}
use Rattle.foundation.specs.Reflects.{◌⇒◌}
use Rattle.divisors.specs.Divisors.{safe_at}
use Rattle.design.specs.declared.Process.{Process}
use Rattle.design.specs.declared.Shape.{Shape}
use Rattle.marks.specs.Marks.{place_from}
use Rattle.defined.specs.Defined.{has_invariant_in, has_mapping_in, has_measure_in, row_has_in}
use Rattle.steps.specs.Arrays.{line_of, invariant_in, mapped_in}
use Rattle.row_plan.specs.RowPlan.{row_plan_at, risk_at, unsure_at}

-- nothing could lack a value
unfoldable pub sure_by : List ℕ → Bool
sure_by p = eqb (unsure_at p) 0

-- row k of the process, number n of the plan
unfoldable pub row_by : List ℕ → List ℕ → Shape → Process → List ℕ → ℕ → ℕ → List ℕ → Bool
row_by f s h q p n k v =
    let line : ℕ = line_of s q k in
    safe_at (risk_at p n) v || row_has_in f line q.parameters.count (place_from s h (row_plan_at p n).mark.at) (get_or (drop line f) 2 0) v

unfoldable pub rows_by : List ℕ → List ℕ → Shape → Process → List ℕ → ℕ → List ℕ → Bool
rows_by f s h q p from v = all_in_range (λ i. row_by f s h q p (from + i) (i + 1) v) q.rows.count 0

-- mapping and invariant, which may be known to be safe
unfoldable pub mapping_by : List ℕ → List ℕ → Shape → Bool → List ℕ → Bool
mapping_by f s h safe v = safe || has_mapping_in f s h v

unfoldable pub invariant_by : List ℕ → List ℕ → Shape → Bool → List ℕ → Bool
invariant_by f s h safe v = safe || has_invariant_in f s h v

-- all but invariant and measure
unfoldable pub others_by : List ℕ → List ℕ → Shape → List ℕ → Bool → List ℕ → Bool
others_by f s h p safe v =
    mapping_by f s h safe v && (rows_by f s h h.implementation p 0 v && rows_by f s h h.specification p 32 (mapped_in f s h v))

unfoldable pub apart_as_read : List ℕ → List ℕ → Shape → List ℕ → List ℕ → Bool
apart_as_read f s h p v =
    let safe : Bool = safe_at (risk_at p 64) v in
    sure_by p || (invariant_by f s h safe v && (invariant_in f s h v ⇒ others_by f s h p safe v))

unfoldable pub asked_by : List ℕ → List ℕ → Shape → List ℕ → List ℕ → Bool
asked_by f s h p v = apart_as_read f s h p v && (safe_at (risk_at p 64) v || (invariant_in f s h v ⇒ has_measure_in f s h v))

unfoldable pub tenth_by : List ℕ → List ℕ → Shape → List ℕ → List ℕ → Bool
tenth_by f s h p v = sure_by p || asked_by f s h p v
