-- What is worked out once for all states: which rows do not read the sum value, where marks stand, and the plan of each row; and the risks,
-- what could leave a row without a value. f the fields, s the starts of lines, p a process and o the other, h the shape; rows count from 1.
use Rattle.std.specs.Prelude.{Bool, true, false, not, ◌&&◌, ◌||◌, cond, List, [], ◌∷◌, ◌++◌, ℕ, ◌+◌, ◌-◌, ◌/◌, ◌%◌, min, eqb, leb, ltb, get_or, drop}
use Rattle.foundation.specs.First.{all_in_range}
use Rattle.foundation.specs.Nth.{each_b}
use Rattle.terms.specs.Tree.{Value}
use Rattle.terms.specs.Read.{read_f}
use Rattle.sum_free.specs.SumFree.{sum_free_v, sum_free_f}
use Rattle.limits.specs.Limits.{max_span}
use Rattle.divisors.specs.Divisors.{nothing, both, only_if, divides_v, divides_f}
use Rattle.criteria.specs.Design.{Design, Row}
use Rattle.design.specs.Line.{values_in}
use Rattle.design.specs.Loaded.{design_at}
use Rattle.design.specs.declared.Process.{Process}
use Rattle.design.specs.declared.Shape.{Shape}
use Rattle.conjuncts.specs.Conjuncts.{front_of}
use Rattle.decision.specs.Tests.{internal_b}
use Rattle.steps.specs.Arrays.{line_of, row_by, partner_by, row_with}
use Rattle.marks.specs.Marks.{mark_place, place_from}
use Rattle.row_plan.specs.RowPlan.{no_mark, no_row_plan, numbers_from, risks_from}
use Rattle.row_plan.specs.declared.RowPlan.{RowPlan}
use Rattle.row_plan.specs.declared.Mark.{Mark}
use Rattle.plan.specs.declared.Free.{Free}

-- ---- rows

-- values, and a row's condition or the whole row, that do not read the sum value
unfoldable pub values_free : List ℕ → ℕ → ℕ → Bool
values_free f at n = each_b (λ (t : Value). sum_free_v t) (values_in n (drop at f))

unfoldable pub sum_free_of : Bool → Row → Bool
sum_free_of whole r = sum_free_f r.condition && (not whole || (sum_free_v r.carries && each_b (λ (t : Value). sum_free_v t) r.next))

-- of the condition, and of what is asked for
abbrev pub frees_of : Bool → Row → Free
frees_of whole r = record { condition = sum_free_f r.condition; all = sum_free_of whole r }

unfoldable pub partner_free : List ℕ → List ℕ → Process → ℕ → Bool → Bool
partner_free f s p k whole = sum_free_of whole (partner_by f s p k)

-- ---- marks

-- of row k of the implementation: its place in the line of marks
unfoldable pub mark_there : List ℕ → List ℕ → Shape → ℕ → Mark
mark_there f s h k =
    let at : ℕ = mark_place f s h k in
    record { at = at - get_or s h.marks.first 0; free = sum_free_f (read_f 32 (drop at f)).tree }

-- where there is such a line, and the row is internal
unfoldable pub mark_in : List ℕ → List ℕ → Shape → ℕ → Mark
mark_in f s h k = cond (eqb h.marks.count 0) no_mark (cond (internal_b (row_by f s h.implementation k)) (mark_there f s h k) no_mark)

-- ---- the plan of a row

-- one look does for all sum values where nothing reads them
unfoldable pub looks_of : Bool → ℕ → ℕ
looks_of free span = cond free (min span 1) span

-- of row k, whose mark is m
unfoldable pub row_plan_of : List ℕ → List ℕ → Process → Process → Bool → Mark → ℕ → RowPlan
row_plan_of f s p o whole m k =
    let r : Row = row_by f s p k in
    let j : ℕ = row_with f s o r.action in
    record {
      partner = j;
      looks = looks_of ((sum_free_of whole r && partner_free f s o j whole) && m.free) r.span;
      internal = internal_b r;
      free = sum_free_f r.condition;
      front = front_of f (line_of s p k + 3) 32;
      mark = m;
    }

-- where there is one
unfoldable pub row_plan_in : List ℕ → List ℕ → Process → Process → Bool → Mark → ℕ → RowPlan
row_plan_in f s p o whole m k = cond (leb k p.rows.count) (row_plan_of f s p o whole m k) no_row_plan

-- that of a row of the implementation after i others
abbrev pub impl_plan : List ℕ → List ℕ → Shape → ℕ → RowPlan
impl_plan f s h i = row_plan_of f s h.implementation h.specification true (mark_in f s h (i + 1)) (i + 1)

-- there is a row number i of both processes, the implementation's first
unfoldable pub there_in : Shape → ℕ → Bool
there_in h i = cond (ltb i 32) (leb (i + 1) h.implementation.rows.count) (leb (i - 32 + 1) h.specification.rows.count)

-- number i of them: the rows of the implementation, whole, then those of the specification, of which only the conditions count
unfoldable pub row_plan_for : List ℕ → List ℕ → Shape → ℕ → RowPlan
row_plan_for f s h i =
    cond (ltb i 32) (row_plan_in f s h.implementation h.specification true (mark_in f s h (i + 1)) (i + 1))
    (row_plan_in f s h.specification h.implementation false no_mark (i - 32 + 1))

-- ---- risks

-- what is known already, or what could leave one of the values without one
unfoldable pub risks_on : ℕ → List Value → ℕ
risks_on known [] = known
risks_on known (t ∷ ts) = risks_on (both known (divides_v t)) ts

-- of n values from a place on
unfoldable pub values_risk : List ℕ → ℕ → ℕ → ℕ
values_risk f at n = risks_on nothing (values_in n (drop at f))

-- of a row's condition, data or next values, which are looked at for sum values below 256
unfoldable pub risk_of : Row → ℕ
risk_of r = only_if (leb r.span max_span) (both (divides_f r.condition) (both (divides_v r.carries) (risks_on nothing r.next)))

-- of the mark that stands at a place, 0 for none
unfoldable pub mark_risk : List ℕ → ℕ → ℕ
mark_risk f place = cond (eqb place 0) nothing (divides_f (read_f 32 (drop place f)).tree)

-- of row k, where there is one, or of the mark that stands at a place
unfoldable pub risk_in : List ℕ → List ℕ → Process → ℕ → ℕ → ℕ
risk_in f s p k place = cond (leb k p.rows.count) (both (risk_of (row_by f s p k)) (mark_risk f place)) nothing

-- of a row of the implementation after i others, with its mark, and of one of the specification
unfoldable pub impl_risk : List ℕ → List ℕ → Shape → ℕ → ℕ
impl_risk f s h i = both (risk_of (row_by f s h.implementation (i + 1))) (mark_risk f (place_from s h (mark_in f s h (i + 1)).at))

unfoldable pub spec_risk : List ℕ → List ℕ → Shape → ℕ → ℕ
spec_risk f s h i = risk_of (row_by f s h.specification (i + 1))

-- number i of them, where there is such a row: those of the implementation's rows, then those of the specification's
unfoldable pub risk_for : List ℕ → List ℕ → Shape → ℕ → ℕ
risk_for f s h i =
    cond (ltb i 32) (cond (leb (i + 1) h.implementation.rows.count) (impl_risk f s h i) nothing)
    (cond (leb (i - 32 + 1) h.specification.rows.count) (spec_risk f s h (i - 32)) nothing)

-- of the invariant, the mapping or the measure
unfoldable pub kinds_risk : List ℕ → List ℕ → Shape → ℕ
kinds_risk f s h =
    let d : Design = design_at f s h in
    both (divides_f d.invariant) (both (risks_on nothing d.mapping) (divides_v d.measure))

-- nothing could leave any of these without a value
unfoldable pub sure_in : List ℕ → List ℕ → Shape → Bool
sure_in f s h = all_in_range (λ i. eqb (risk_for f s h i) nothing) 64 0 && eqb (kinds_risk f s h) nothing

-- ---- all of them

abbrev pub unsure : Bool → ℕ
unsure sure = cond sure 0 1

unfoldable pub plan_in : List ℕ → List ℕ → Shape → List ℕ
plan_in f s h = numbers_from (row_plan_for f s h) 64 0 ++ (risks_from (risk_for f s h) 64 0 ++ (kinds_risk f s h % 65536 ∷ kinds_risk f s h / 65536 ∷ unsure (sure_in f s h) ∷ []))
