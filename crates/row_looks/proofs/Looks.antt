-- The row that `row_at` makes is the design's, and the turns of the loop over sum values.
use mathlib.Core.Path.{◌≡◌, refl, sym, ◌∙◌, ap}
use mathlib.Core.Bool.{Bool, true, false, not, ◌&&◌, ◌||◌, true≢false}
use mathlib.Core.List.{List}
use Prim.Native.Nat.{ℕ, ◌+◌, ◌≤◌, ◌<◌}
use native.Mathlib.Omega.{arith}
use native.Mathlib.Decide.{dec_lt}
use borrow.Author.Tests.{not-true, not-false}
use lib.Dec.{ltb}
use lib.ListN.{drop}
use Rattle.terms.specs.Tree.{eval_f}
use Rattle.terms.specs.Read.{read_v, read_f}
use Rattle.terms.proofs.Read.{place}
use Rattle.terms.proofs.And.{and_left}
use Rattle.eval.specs.Answer.{answer_f, answer_v}
use Rattle.sum_free.specs.SumFree.{sum_free_f}
use Rattle.sum_free.proofs.SumFree.{same_f}
use Rattle.eval.specs.declared.Held.{Held}
use Rattle.eval.specs.declared.Valued.{Valued}
use Rattle.criteria.specs.Design as design
use Rattle.criteria.specs.Step.{next_state}
use Rattle.decision.specs.Tests.{enabled_b, internal_b, marked_b}
use Rattle.design.specs.Line as line
use Rattle.design.specs.Loaded.{design_at}
use Rattle.design.specs.declared.Shape.{Shape}
use Rattle.layout.specs.Sizes.{Fits}
use Rattle.conjuncts.specs.Conjuncts.{front_of, guard_in}
use Rattle.conjuncts.specs.declared.Guarded.{Guarded}
use Rattle.conjuncts.proofs.Conjuncts.{guards}
use Rattle.steps.specs.Arrays.{padded, values_at, line_of, row_by}
use Rattle.marks.specs.Marks.{place_from, mark_holds}
use Rattle.row_plan.specs.RowPlan.{row_plan_at}
use Rattle.row_plan.specs.declared.RowPlan.{RowPlan}
use Rattle.plan.specs.Plan.{plan_in, row_plan_of, impl_plan}
use Rattle.plan.proofs.Planned.{impl_row_plan}
use Rattle.plan.proofs.Held.{row_as_is, row_by_lem, row_is, row_line_lem, marks_at}
use Rattle.row_looks.specs.Looks.{left, next_from, looks_needed, row_of, IsAt, FoundOn, NoneOn}
use Rattle.row_looks.specs.declared.Row.{Row}

-- ---- how many looks

or_none : (a b : Bool) → not a || b ≡ false → (a ≡ true) × (b ≡ false)
or_none true b e = (refl, e)
or_none false b e = absurd (true≢false e)

module _ (f v : List ℕ) (g : Guarded) (en : RowPlan) where
  pub looks_ruled_out : not g.holds ≡ true → 0 ≡ looks_needed f g en v
  looks_ruled_out y = rw (not-true g.holds y)

  module _ (y : not g.holds ≡ false) where
    pub looks_planned : not (en.free && ltb 1 en.looks) ≡ true → en.looks ≡ looks_needed f g en v
    looks_planned z = rw (not-false g.holds y, not-true (en.free && ltb 1 en.looks) z)

    module _ (z : not (en.free && ltb 1 en.looks) ≡ false) (on : Held) (eo : on ≡ answer_f g.at v 0 (read_f g.depth (drop g.at f))) where
      rest_is : eval_f (read_f g.depth (drop g.at f)).tree v 0 ≡ on.holds
      rest_is = ap (λ (q : Held). q.holds) (sym eo)

      pub looks_on : on.holds ≡ true → en.looks ≡ looks_needed f g en v
      looks_on w = rw (not-false g.holds y, not-false (en.free && ltb 1 en.looks) z, rest_is, w)

      pub looks_off : on.holds ≡ false → 0 ≡ looks_needed f g en v
      looks_off w = rw (not-false g.holds y, not-false (en.free && ltb 1 en.looks) z, rest_is, w)

-- ---- the row

module _ (f s v : List ℕ) (h : Shape) (i : ℕ) (fits : Fits h) (below : i < h.implementation.rows.count) where
  abbrev d : design.Design
  d = design_at f s h

  abbrev r : design.Row
  r = row_of f s h i

  abbrev n : ℕ
  n = h.implementation.parameters.count

  abbrev l : ℕ
  l = line_of s h.implementation (i + 1)

  abbrev front : Guarded
  front = guard_in f v 0 (front_of f (l + 3) 32) (l + 3) 32

  abbrev rest : ℕ → Bool
  rest e = eval_f (read_f front.depth (drop front.at f)).tree v e

  is_row : r ≡ line.row_of n (drop l f)
  is_row = row_is f s h.implementation i below ∙ ap (λ k. line.row_of n (drop k f)) (sym (row_line_lem f s h.implementation i))

  on_guarded : (e : ℕ) → enabled_b r v e ≡ front.holds && rest e
  on_guarded e = ap (λ (q : design.Row). enabled_b q v e) is_row ∙ rw (place f l 3 refl) (guards f v e 32 (l + 3)).says

  next_behind : front.holds ≡ true → (e : ℕ) → next_from f h (front.at + (read_f front.depth (drop front.at f)).used) v e ≡ padded (next_state r v e)
  unfolding values_at
  next_behind y e =
      ap (λ k. next_from f h k v e) (sym ((guards f v e 32 (l + 3)).ends y))
      ∙ sym (ap (λ (q : design.Row). padded (next_state q v e)) is_row ∙ rw (place f l 3 refl, place f (l + 3) _ refl, place f (l + 3 + _) _ refl))

  module _ (p : List ℕ) (en : RowPlan) (line at : ℕ) (g : Guarded) (ep : p ≡ plan_in f s h) (ee : en ≡ row_plan_at p i) (el : line ≡ l)
      (eg : g ≡ guard_in f v 0 en.front (line + 3) 32) (em : at ≡ place_from s h en.mark.at) where
    plan_is : en ≡ impl_plan f s h i
    plan_is = let q = fits.implementation.rows in ee ∙ ap (λ z. row_plan_at z i) ep ∙ impl_row_plan f s h fits i (omega arith) below

    guard_is : g ≡ front
    unfolding row_plan_of
    guard_is = eg ∙ rw (plan_is, el)

    same_sort : en.internal ≡ internal_b r
    unfolding row_plan_of
    same_sort = rw plan_is (ap internal_b (row_by_lem f s h.implementation i ∙ sym (row_is f s h.implementation i below)))

    same_mark : (e : ℕ) → internal_b r ≡ true → mark_holds f at v e ≡ marked_b d (i + 1) v e
    unfolding row_plan_of
    same_mark e int =
        let y : internal_b (row_as_is f s h.implementation i) ≡ true = ap internal_b (sym (row_is f s h.implementation i below)) ∙ int in
        rw (em, plan_is) (marks_at f s h v i below y e e (λ _. refl))

    -- where the condition doesn't read the sum value, it is for each what it is for 0
    free_same : en.free ≡ true → (e : ℕ) → enabled_b r v e ≡ enabled_b r v 0
    unfolding row_plan_of
    free_same y e =
        let planned : en.free ≡ sum_free_f (row_by f s h.implementation (i + 1)).condition = ap (λ (z : RowPlan). z.free) plan_is in
        let is : row_by f s h.implementation (i + 1) ≡ r = row_by_lem f s h.implementation i ∙ sym (row_is f s h.implementation i below) in
        same_f r.condition v e 0 (ap (λ (q : design.Row). sum_free_f q.condition) (sym is) ∙ sym planned ∙ y)

    -- the rest for the sum value 0
    abbrev rest_at : Bool
    rest_at = eval_f (read_f g.depth (drop g.at f)).tree v 0

    -- the conjuncts in front hold, or they do not; and so does the rest, where it is looked at
    pub row_is_at : (k : ℕ) → k ≡ looks_needed f g en v → IsAt f s h i v (record { internal = en.internal; at = g.at; depth = g.depth; looks = k; mark = at })
    row_is_at k ek = go g.holds (not (en.free && ltb 1 en.looks) || rest_at) refl refl
      where
        planned : en.looks ≡ (impl_plan f s h i).looks
        planned = ap (λ (z : RowPlan). z.looks) plan_is

        none_on : en.free ≡ true → rest_at ≡ false → g.holds ≡ true → (e : ℕ) → enabled_b r v e ≡ false
        none_on free off y e =
            let z : front.holds ≡ true = ap (λ (q : Guarded). q.holds) (sym guard_is) ∙ y in
            let zero : rest 0 ≡ false = ap (λ (q : Guarded). eval_f (read_f q.depth (drop q.at f)).tree v 0) (sym guard_is) ∙ off in
            free_same free e ∙ (on_guarded 0 ∙ rw (z, zero))

        go : (b c : Bool) → g.holds ≡ b → not (en.free && ltb 1 en.looks) || rest_at ≡ c
            → IsAt f s h i v (record { internal = en.internal; at = g.at; depth = g.depth; looks = k; mark = at })
        go true false y w =
            let none : k ≡ 0 = ek ∙ rw (y, w) in
            let off = or_none (en.free && ltb 1 en.looks) rest_at w in
            record {
              internal = same_sort;
              most = omega arith;
              on = λ e u. absurd (omega arith);
              off = λ e a b. none_on (and_left en.free (ltb 1 en.looks) off.0) off.1 y e;
              next = λ e u. absurd (omega arith);
              marked = same_mark;
            }
        go true true y w =
            let z : front.holds ≡ true = ap (λ (q : Guarded). q.holds) (sym guard_is) ∙ y in
            let all : k ≡ en.looks = ek ∙ rw (y, w) in
            let as-planned = planned in
            record {
              internal = same_sort;
              most = omega arith;
              on = λ e u. rw guard_is (sym (on_guarded e ∙ rw z));
              off = λ e a b. absurd (omega arith);
              next = λ e u. rw guard_is (next_behind z e);
              marked = same_mark;
            }
        go false c y w =
            let z : front.holds ≡ false = ap (λ (q : Guarded). q.holds) (sym guard_is) ∙ y in
            let none : k ≡ 0 = ek ∙ rw y in
            record {
              internal = same_sort;
              most = omega arith;
              on = λ e u. absurd (omega arith);
              off = λ e a b. on_guarded e ∙ rw z;
              next = λ e u. absurd (omega arith);
              marked = same_mark;
            }

-- ---- the loop

module _ (f : List ℕ) (row : Row) (v : List ℕ) (from : ℕ) where
  pub record Off (sum : ℕ) : Type 0 where
    pub after : from ≤ sum
    pub none_before : (e : ℕ) → from ≤ e → e < sum → eval_f (left f row).tree v e ≡ false

  pub off_starts : Off from
  off_starts = record { after = omega arith; none_before = λ e a b. absurd (omega arith) }

  pub off_turns : (sum : ℕ) (on : Held) → on ≡ answer_f row.at v sum (left f row) → on.holds ≡ false → Off sum → Off (sum + 1)
  off_turns sum on eo z o =
      record {
        after = let a = o.after in omega arith;
        none_before = λ e a b. go e a (dec_lt e sum) b;
      }
    where
      go : (e : ℕ) → from ≤ e → Dec (e < sum) → e < sum + 1 → eval_f (left f row).tree v e ≡ false
      go e a (yes l) b = o.none_before e a l
      go e a (no l) b = let q : e ≡ sum = omega arith in rw q (ap (λ (x : Held). x.holds) (sym eo) ∙ z)

  pub found_on : (sum : ℕ) (on : Held) → sum < row.looks → on ≡ answer_f row.at v sum (left f row) → on.holds ≡ true → Off sum → FoundOn f row v from (record { sum = sum; at = on.next })
  found_on sum on l eo z o =
      record {
        after = o.after;
        below = l;
        none_before = o.none_before;
        holds = ap (λ (q : Held). q.holds) (sym eo) ∙ z;
        at = ap (λ (q : Held). q.next) eo;
      }

  pub found_none : (sum : ℕ) → row.looks ≤ sum → Off sum → NoneOn f row v from
  found_none sum past o = record { none = λ e a b. o.none_before e a (omega arith) }

-- ---- where it leads

pub next_is : (f v : List ℕ) (h : Shape) (at e : ℕ) (x : Valued) (r : List ℕ) → x ≡ answer_v at v e (read_v 32 (drop at f))
    → r ≡ padded (values_at f x.next h.implementation.parameters.count v e) → r ≡ next_from f h at v e
next_is f v h at e x r ex er = er ∙ ap (λ (q : Valued). padded (values_at f q.next h.implementation.parameters.count v e)) ex
