-- What a plan says of a row is so of the row of the design in the arrays: what does not read the sum value does for each what it does for 0,
-- and the mark that stands at the planned place is the row's.
use mathlib.Core.Path.{◌≡◌, refl, sym, ◌∙◌, ap}
use mathlib.Core.Bool.{Bool, true, false, ◌&&◌, true≢false, cond}
use mathlib.Core.List.{List, [], ◌∷◌}
use Prim.Native.Nat.{ℕ, suc, ◌+◌, ◌-◌, ◌≤◌, ◌<◌, min}
use native.Mathlib.Numerals.{add-one}
use native.Mathlib.Omega.{arith}
use native.Mathlib.Decide.{dec_lt}
use borrow.Author.Tests.{eqb-true, eq-eqb, ne_eqb}
use lib.ListN.{length, get_or, drop}
use Rattle.foundation.specs.First.{all_in_range}
use Rattle.foundation.specs.Nth.{each_b}
use Rattle.foundation.proofs.First.{all_from}
use Rattle.foundation.proofs.All.{all_in}
use Rattle.terms.specs.Tree.{Value, Formula, eval_f}
use Rattle.terms.specs.Read.{read_f}
use Rattle.terms.proofs.And.{and_left, and_right}
use Rattle.sum_free.specs.SumFree.{sum_free_v, sum_free_f}
use Rattle.sum_free.proofs.SumFree.{same_v, same_f}
use Rattle.criteria.specs.Design.{Design, Row, State, values}
use Rattle.criteria.specs.Step.{next_state, data_number}
use Rattle.criteria.specs.Rows.{row_at}
use Rattle.decision.specs.Tests.{enabled_b, internal_b, marked_b}
use Rattle.design.specs.Line as line
use Rattle.design.specs.Loaded.{line_from, process_in, design_at}
use Rattle.design.specs.declared.Process.{Process}
use Rattle.design.specs.declared.Shape.{Shape}
use Rattle.steps.specs.Arrays.{line_of, row_by, row_with}
use Rattle.steps.proofs.Arrays.{row_there}
use Rattle.steps.proofs.States.{rows_count}
use Rattle.marks.specs.Marks.{after_formulas, mark_place, place_from, mark_holds}
use Rattle.marks.proofs.Held.{mark_none, mark_held}
use Rattle.row_plan.specs.declared.Mark.{Mark}
use Rattle.plan.specs.Plan.{sum_free_of, partner_free, looks_of, mark_there, mark_in, row_plan_of, impl_plan}

-- values that do not read the sum value
pub values_same : (vs : List Value) (x : State) (e : ℕ) → each_b (λ (t : Value). sum_free_v t) vs ≡ true → values vs x e ≡ values vs x 0
values_same [] x e h = refl
values_same (t ∷ vs) x e h =
    rw (same_v t x e 0 (and_left (sum_free_v t) (each_b (λ (t : Value). sum_free_v t) vs) h), values_same vs x e (and_right (sum_free_v t) (each_b (λ (t : Value). sum_free_v t) vs) h))

-- a row does for a sum value what it does for 0
pub record AsForZero (r : Row) (x : State) (e : ℕ) : Type 0 where
  pub on : enabled_b r x e ≡ enabled_b r x 0
  pub number : data_number r x e ≡ data_number r x 0
  pub next : next_state r x e ≡ next_state r x 0

pub as_for_zero : (r : Row) (x : State) (e : ℕ) → sum_free_of true r ≡ true → AsForZero r x e
unfolding sum_free_of
as_for_zero r x e h =
    let rest : Bool = each_b (λ (t : Value). sum_free_v t) r.next in
    let k = and_right (sum_free_f r.condition) (sum_free_v r.carries && rest) h in
    record {
      on = same_f r.condition x e 0 (and_left (sum_free_f r.condition) (sum_free_v r.carries && rest) h);
      number = same_v r.carries x e 0 (and_left (sum_free_v r.carries) rest k);
      next = values_same r.next x e (and_right (sum_free_v r.carries) rest k);
    }

pub condition_free : (r : Row) → sum_free_of false r ≡ true → sum_free_f r.condition ≡ true
unfolding sum_free_of
condition_free r h = and_left (sum_free_f r.condition) true h

-- a formula for one sum value and for another, where it reads none or they are the same
pub as_for : (t : Formula) (v : State) (x e : ℕ) → (sum_free_f t ≡ false → x ≡ e) → eval_f t v x ≡ eval_f t v e
as_for t v x e same = go (sum_free_f t) refl
  where
    go : (b : Bool) → sum_free_f t ≡ b → eval_f t v x ≡ eval_f t v e
    go true h = same_f t v x e h
    go false h = ap (λ n. eval_f t v n) (same h)

-- taken for 0 where it does not read the sum value, it is the formula
pub taken_held : (t : Formula) (x : State) (e : ℕ) → eval_f t x (cond (sum_free_f t) 0 e) ≡ eval_f t x e
taken_held t x e = as_for t x (cond (sum_free_f t) 0 e) e (λ z. rw z)

-- ---- the rows of a process

module _ (f s : List ℕ) (p : Process) where
  abbrev pub line_at : ℕ → List ℕ
  line_at i = line_from f s (p.rows.first + i)

  abbrev pub row_as_is : ℕ → Row
  row_as_is i = line.row_of p.parameters.count (line_at i)

  pub row_line_lem : (i : ℕ) → line_of s p (i + 1) ≡ get_or s (p.rows.first + i) 0
  unfolding line_of
  row_line_lem i = let e : p.rows.first + (i + 1) - 1 ≡ p.rows.first + i = omega arith in rw e

  pub row_by_lem : (i : ℕ) → row_by f s p (i + 1) ≡ row_as_is i
  unfolding row_by
  row_by_lem i = rw (row_line_lem i)

pub row_is : (f s : List ℕ) (p : Process) (i : ℕ) → i < p.rows.count → row_at (process_in f s p).rows (i + 1) ≡ row_as_is f s p i
row_is f s p i below =
    let e : p.rows.first + (i + 1) - 1 ≡ p.rows.first + i = omega arith in
    row_there f s p (i + 1) (omega arith) (omega arith) ∙ rw e

module _ (f s : List ℕ) (p : Process) where
  -- what is asked of each row, by its number
  pub numbered : (G : ℕ → Row → Bool) → all_in_range (λ i. G (i + 1) (row_as_is f s p i)) p.rows.count 0
      ≡ all_in_range (λ k. G k (row_at (process_in f s p).rows k)) (length (process_in f s p).rows) 1
  numbered G =
      all_in (λ i. G (i + 1) (row_as_is f s p i)) (λ i. G (suc i) (row_at (process_in f s p).rows (suc i))) p.rows.count 0 same
      ∙ ap (λ n. all_in_range (λ i. G (suc i) (row_at (process_in f s p).rows (suc i))) n 0) (sym (rows_count f s p))
      ∙ sym (all_from (λ k. G k (row_at (process_in f s p).rows k)) (length (process_in f s p).rows) 0)
    where
      same : (i : ℕ) → 0 ≤ i → i < 0 + p.rows.count → G (i + 1) (row_as_is f s p i) ≡ G (suc i) (row_at (process_in f s p).rows (suc i))
      same i z l =
          let e : p.rows.first + suc i - 1 ≡ p.rows.first + i = omega arith in
          rw (add-one i, row_there f s p (suc i) (omega arith) (omega arith), e)

-- ---- the mark of an internal row, by its plan

module _ (f s : List ℕ) (h : Shape) (v : State) (i : ℕ) where
  abbrev mark : Mark
  mark = mark_in f s h (i + 1)

  abbrev start : ℕ
  start = get_or s h.marks.first 0

  -- where it stands, by the plan and by the arrays
  abbrev pub planned : ℕ
  planned = place_from s h mark.at

  abbrev at : ℕ
  at = mark_place f s h (i + 1)

  after_start : start < at
  unfolding mark_place after_formulas
  after_start = omega arith

  module _ (below : i < h.implementation.rows.count) (int : internal_b (row_as_is f s h.implementation i) ≡ true) where
    -- without a line of marks
    none_given : h.marks.count ≡ 0 → (x e : ℕ) → mark_holds f planned v x ≡ marked_b (design_at f s h) (i + 1) v e
    unfolding mark_in mark_holds eval_f
    none_given n x e = rw (eq-eqb h.marks.count 0 n) (ap (λ (g : Formula). eval_f g v e) (sym (mark_none f s h (i + 1) n)))

    -- with one
    row_internal : (row_at (design_at f s h).impl.rows (i + 1)).action ≡ 0
    row_internal = ap (λ (r : Row). r.action) (row_is f s h.implementation i below) ∙ eqb-true (row_as_is f s h.implementation i).action 0 int

    mark_is : (h.marks.count ≡ 0 → ⊥) → mark ≡ mark_there f s h (i + 1)
    unfolding mark_in
    mark_is some = rw (ne_eqb h.marks.count 0 some, row_by_lem f s h.implementation i, int)

    some_given : (h.marks.count ≡ 0 → ⊥) → (x e : ℕ) → (mark.free ≡ false → x ≡ e) → mark_holds f planned v x ≡ marked_b (design_at f s h) (i + 1) v e
    unfolding mark_there mark_holds
    some_given some x e same =
        let l = after_start in
        let p : start + (at - start) ≡ at = omega arith in
        let t : Formula = (read_f 32 (drop at f)).tree in
        rw (mark_is some, ne_eqb (at - start) 0 (λ z. omega arith), p, ne_eqb at 0 (λ z. omega arith))
        (as_for t v x e (λ z. same (ap (λ (m : Mark). m.free) (mark_is some) ∙ z))
        ∙ ap (λ (g : Formula). eval_f g v e) (sym (mark_held f s h (i + 1) (omega arith) (omega arith) row_internal some)))

    -- for a sum value, or for any in its place where the mark is planned to be sum-free
    pub marks_at : (x e : ℕ) → (mark.free ≡ false → x ≡ e) → mark_holds f planned v x ≡ marked_b (design_at f s h) (i + 1) v e
    marks_at x e same = go (dec_lt 0 h.marks.count)
      where
        go : Dec (0 < h.marks.count) → mark_holds f planned v x ≡ marked_b (design_at f s h) (i + 1) v e
        go (yes c) = some_given (λ z. omega arith) x e same
        go (no c) = none_given (omega arith) x e

    pub marks_are : (e : ℕ) → mark_holds f planned v (cond mark.free 0 e) ≡ marked_b (design_at f s h) (i + 1) v e
    marks_are e = marks_at (cond mark.free 0 e) e (λ z. rw z)

-- ---- the looks that are planned for a row of the implementation

-- a sum value below n for which row k does what it does for e
pub record Likewise (d : Design) (k : ℕ) (v : State) (n e : ℕ) : Type 0 where
  pub sum : ℕ
  pub below : sum < n
  pub on : enabled_b (row_at d.impl.rows k) v sum ≡ enabled_b (row_at d.impl.rows k) v e
  pub next : next_state (row_at d.impl.rows k) v sum ≡ next_state (row_at d.impl.rows k) v e
  pub marked : internal_b (row_at d.impl.rows k) ≡ true → marked_b d k v sum ≡ marked_b d k v e

looks_few : (b : Bool) (n : ℕ) → looks_of b n ≤ n
unfolding looks_of
looks_few true n = omega arith
looks_few false n = omega arith

-- the looks that are planned are enough, and no more than there are sum values
module _ (f s : List ℕ) (h : Shape) (v : State) (i : ℕ) (below : i < h.implementation.rows.count) where
  abbrev d : Design
  d = design_at f s h

  abbrev r : Row
  r = row_at d.impl.rows (i + 1)

  abbrev looks : ℕ
  looks = (impl_plan f s h i).looks

  is_by : row_by f s h.implementation (i + 1) ≡ r
  is_by = row_by_lem f s h.implementation i ∙ sym (row_is f s h.implementation i below)

  -- the whole row and its mark are sum-free
  abbrev free : Bool
  free =
      let q : Row = row_by f s h.implementation (i + 1) in
      (sum_free_of true q && partner_free f s h.specification (row_with f s h.specification q.action) true) && (mark_in f s h (i + 1)).free

  looks_are : looks ≡ looks_of free (row_by f s h.implementation (i + 1)).span
  unfolding row_plan_of
  looks_are = refl

  pub looks_within : looks ≤ r.span
  looks_within =
      let k : looks ≡ looks_of free r.span = looks_are ∙ ap (λ (q : Row). looks_of free q.span) is_by in
      rw k (looks_few free r.span)

  pub looks_enough : (e : ℕ) → e < r.span → Likewise d (i + 1) v looks e
  unfolding looks_of
  looks_enough e l = go free refl (looks_are ∙ ap (λ (q : Row). looks_of free q.span) is_by)
    where
      go : (b : Bool) → free ≡ b → looks ≡ cond free (min r.span 1) r.span → Likewise d (i + 1) v looks e
      go false z k =
          let n : looks ≡ r.span = k ∙ rw z in
          record { sum = e; below = omega arith; on = refl; next = refl; marked = λ _. refl }
      go true z k =
          let n : looks ≡ min r.span 1 = k ∙ rw z in
          let q : Row = row_by f s h.implementation (i + 1) in
          let both : Bool = sum_free_of true q && partner_free f s h.specification (row_with f s h.specification q.action) true in
          let whole : sum_free_of true q ≡ true = and_left (sum_free_of true q) _ (and_left both (mark_in f s h (i + 1)).free z) in
          let a : AsForZero r v e = as_for_zero r v e (rw is_by at whole) in
          let m : (mark_in f s h (i + 1)).free ≡ true = and_right both (mark_in f s h (i + 1)).free z in
          record {
            sum = 0;
            below = omega arith;
            on = sym a.on;
            next = sym a.next;
            marked = λ int. let y : internal_b (row_as_is f s h.implementation i) ≡ true = ap internal_b (sym (row_is f s h.implementation i below)) ∙ int in
                sym (marks_at f s h v i below y 0 0 (λ _. refl)) ∙ marks_at f s h v i below y 0 e (λ q. absurd (true≢false (sym m ∙ q)));
          }
