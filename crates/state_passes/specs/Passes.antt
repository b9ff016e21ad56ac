-- The quick test of a state as the code makes it, by any plan p: f the fields, s the starts of lines, h the shape; v the state, t its
-- mapped state, m its measure. By the right plan it is that of decision/specs/Quick (proofs/Decided).
use Rattle.std.specs.Prelude.{Bool, true, false, not, ◌&&◌, ◌||◌, cond, List, ℕ, ◌+◌, ◌-◌, eqb, drop, Option, is_some, unwrap_or}
use Rattle.std.specs.Bool.{then_some}
use Rattle.foundation.specs.First.{all_in_range}
use Rattle.foundation.specs.Reflects.{◌⇒◌}
use Rattle.terms.specs.Tree.{Formula, eval_f}
use Rattle.terms.specs.Read.{Read, read_f}
use Rattle.eval.specs.Answer.{answer_f}
use Rattle.eval.specs.declared.Held.{Held}
use Rattle.criteria.specs.Design as design
use Rattle.criteria.specs.Step.{next_state, data_number}
use Rattle.decision.specs.Tests.{enabled_b, internal_b}
use Rattle.design.specs.declared.Process.{Process}
use Rattle.design.specs.declared.Shape.{Shape}
use Rattle.steps.specs.Arrays.{padded, line_of, below_in, measure_in, partner_by}
use Rattle.conjuncts.specs.Conjuncts.{guard_in}
use Rattle.conjuncts.specs.declared.Guarded.{Guarded}
use Rattle.marks.specs.Marks.{place_from, mark_holds}
use Rattle.row_plan.specs.RowPlan.{row_plan_at, risk_at}
use Rattle.row_plan.specs.declared.RowPlan.{RowPlan}
use Rattle.step_passes.specs.Steps.{internal_to, visible_to, internal_step, visible_step}
use Rattle.state_passes.specs.declared.Row.{Row}
use Rattle.state_passes.specs.declared.First.{First}

-- ---- a row that is looked at

abbrev pub row_for : Guarded → RowPlan → ℕ → ℕ → Row
row_for g e place risk = record {
  at = g.at;
  depth = g.depth;
  free = e.free;
  looks = e.looks;
  internal = e.internal;
  partner = e.partner;
  mark = place;
  steady = e.mark.free;
  risk = risk;
}

-- what is left of its condition; whether that holds for the sum value e, taken for 0 where it is said to be sum-free
abbrev pub left : List ℕ → Row → Read Formula
left f row = read_f row.depth (drop row.at f)

abbrev pub on_at : List ℕ → Row → List ℕ → ℕ → Bool
on_at f row v e = eval_f (left f row).tree v (cond row.free 0 e)

-- the same where `first` is known for the sum value 0
unfoldable pub known_in : List ℕ → Row → List ℕ → Held → ℕ → Held
known_in f row v first e = cond (row.free || eqb e 0) first (answer_f row.at v e (left f row))

-- its mark for the sum value e, taken for 0 where it is said to be sum-free
abbrev pub mark_at : List ℕ → Row → List ℕ → ℕ → Bool
mark_at f row v e = mark_holds f row.mark v (cond row.steady 0 e)

-- the same where `first` is known for the sum value 0
unfoldable pub known_mark : List ℕ → Row → List ℕ → Bool → ℕ → Bool
known_mark f row v first e = cond (row.steady || eqb e 0) first (mark_holds f row.mark v e)

-- ---- a step

-- of a row whose data stand at a place, marked or not
abbrev pub step_inside : List ℕ → List ℕ → Shape → Row → ℕ → Bool → List ℕ → List ℕ → ℕ → ℕ → Bool
step_inside f s h row at marked v t m e = cond row.internal (internal_step f s h row.risk at marked v t m e) (visible_step f s h row.risk at row.partner v t e)

-- of a row of the design, whose partner is j
unfoldable pub step_of_row : List ℕ → List ℕ → Shape → ℕ → design.Row → Bool → ℕ → List ℕ → List ℕ → ℕ → ℕ → Bool
step_of_row f s h risk r marked j v t m e =
    let x = padded (next_state r v e) in
    cond (internal_b r) (internal_to f s h risk marked t m x) (visible_to f s h risk j t (data_number r v e) x e)

-- ---- the rows of the implementation

-- of rows that all hold, whether none has a marked step; of others nothing
abbrev pub seen : Bool → Bool → Option Bool
seen h q = then_some h q

-- all hold, and none has a marked step
abbrev pub quiet : Option Bool → Bool
quiet r = unwrap_or r false

-- a look at a visible row, and all
unfoldable pub visible_look : List ℕ → List ℕ → Shape → Row → Held → List ℕ → List ℕ → ℕ → Bool
visible_look f s h row first v t e = let o = known_in f row v first e in o.holds ⇒ visible_step f s h row.risk o.next row.partner v t e

unfoldable pub visible_looks : List ℕ → List ℕ → Shape → Row → Held → List ℕ → List ℕ → Bool
visible_looks f s h row first v t = all_in_range (λ e. visible_look f s h row first v t e) row.looks 0

-- a look at an internal one, and all
unfoldable pub internal_look : List ℕ → List ℕ → Shape → Row → First → List ℕ → List ℕ → ℕ → ℕ → Option Bool
internal_look f s h row first v t m e =
    let o = known_in f row v first.on e in
    let marked = known_mark f row v first.marked e in
    seen (o.holds ⇒ internal_step f s h row.risk o.next marked v t m e) (not (o.holds && marked))

unfoldable pub internal_looks : List ℕ → List ℕ → Shape → Row → First → List ℕ → List ℕ → ℕ → Option Bool
internal_looks f s h row first v t m =
    let look : ℕ → Option Bool = λ e. internal_look f s h row first v t m e in
    seen (all_in_range (λ e. is_some (look e)) row.looks 0) (all_in_range (λ e. quiet (look e)) row.looks 0)

-- the same of either, said of the row
unfoldable pub looks_in : List ℕ → List ℕ → Shape → Row → List ℕ → List ℕ → ℕ → Option Bool
looks_in f s h row v t m =
    let past = row.at + (left f row).used in
    seen (all_in_range (λ e. on_at f row v e ⇒ step_inside f s h row past (mark_at f row v e) v t m e) row.looks 0)
    (not row.internal || all_in_range (λ e. not (on_at f row v e && mark_at f row v e)) row.looks 0)

-- row k, by its plan
unfoldable pub row_in : List ℕ → List ℕ → Shape → ℕ → RowPlan → ℕ → List ℕ → List ℕ → ℕ → Option Bool
row_in f s h k e risk v t m =
    let front = guard_in f v 0 e.front (line_of s h.implementation k + 3) 32 in
    cond front.holds (looks_in f s h (row_for front e (place_from s h e.mark.at) risk) v t m) (seen true true)

-- those after `first` others and before `end`
unfoldable pub impl_between : List ℕ → List ℕ → Shape → List ℕ → ℕ → ℕ → List ℕ → List ℕ → ℕ → Option Bool
impl_between f s h p first end v t m =
    let row : ℕ → Option Bool = λ i. row_in f s h (i + 1) (row_plan_at p i) (risk_at p 64) v t m in
    seen (all_in_range (λ i. is_some (row i)) (end - first) first) (all_in_range (λ i. quiet (row i)) (end - first) first)

-- of all rows
abbrev pub impl_in : List ℕ → List ℕ → Shape → List ℕ → List ℕ → List ℕ → ℕ → Option Bool
impl_in f s h p v t m = impl_between f s h p 0 h.implementation.rows.count v t m

-- ---- the rows of the specification

unfoldable pub replied_in : List ℕ → List ℕ → Process → Row → Held → List ℕ → List ℕ → ℕ → Bool
replied_in f s p row first v t e = (known_in f row t first e).holds ⇒ enabled_b (partner_by f s p row.partner) v e

unfoldable pub reply_looks : List ℕ → List ℕ → Process → Row → List ℕ → List ℕ → Bool
reply_looks f s p row v t = all_in_range (λ e. on_at f row t e ⇒ enabled_b (partner_by f s p row.partner) v e) row.looks 0

unfoldable pub reply_in : List ℕ → List ℕ → Shape → ℕ → RowPlan → List ℕ → List ℕ → Bool
reply_in f s h k e v t =
    let front = guard_in f t 0 e.front (line_of s h.specification k + 3) 32 in
    cond front.holds (reply_looks f s h.implementation (row_for front e 0 0) v t) true

-- those after `first` others and before `end`
unfoldable pub spec_between : List ℕ → List ℕ → Shape → List ℕ → ℕ → ℕ → List ℕ → List ℕ → Bool
spec_between f s h p first end v t = all_in_range (λ i. reply_in f s h (i + 1) (row_plan_at p (32 + i)) v t) (end - first) first

-- of all rows
abbrev pub spec_in : List ℕ → List ℕ → Shape → List ℕ → List ℕ → List ℕ → Bool
spec_in f s h p v t = spec_between f s h p 0 h.specification.rows.count v t

-- ---- the state

unfoldable pub passes_in : List ℕ → List ℕ → Shape → List ℕ → List ℕ → List ℕ → Bool
passes_in f s h p v t =
    let rows = impl_in f s h p v t (measure_in f s h v) in
    below_in f s h.specification t && (is_some rows && (quiet rows ⇒ spec_in f s h p v t))
