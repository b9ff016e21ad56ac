-- The steps by number are the marked steps of the design in the arrays, where each state has a number of 16 bits, no span is over 256 and
-- a measure can be made: from a state in which the invariant holds, a number leads to that of the state to which a marked step leads, and every
-- marked step has such a number.
use mathlib.Core.Path.{◌≡◌, refl, sym, ◌∙◌, ap}
use mathlib.Core.Bool.{Bool, true, false, true≢false}
use mathlib.Core.List.{List}
use Prim.Native.Nat.{ℕ, zero, suc, ◌+◌, ◌*◌, ◌/◌, ◌%◌, ◌≤◌, ◌<◌}
use native.Mathlib.Omega.{arith}
use native.Mathlib.Decide.{dec_lt}
use borrow.Author.Tests.{lt-ltb, ltb-true, eqb-true, eq-eqb}
use lib.Dec.{ltb}
use Rattle.foundation.proofs.Nth.{nth_positive}
use Rattle.terms.specs.Tree.{eval_f}
use Rattle.terms.proofs.Meaning.{holds_says, says_holds, has_says_f}
use Rattle.criteria.specs.Design.{Design, Row, State, RowIs, InvariantState, states, state_number}
use Rattle.criteria.specs.Step.{Enabled, Marked, MarkedStep, next_state}
use Rattle.criteria.specs.Rows.{mark_of, marked_test}
use Rattle.criteria.specs.Criteria.{OthersHave}
use Rattle.criteria.specs.Measure.{Measurable}
use Rattle.criteria.proofs.Rows.{is_row_at, is_row_below, row_at_is, marked_holds, holds_marked, mark_has, and-true, step_of}
use Rattle.decision.specs.Tests.{enabled_b, internal_b, marked_b}
use Rattle.decision.proofs.Alike.{formula_alike, values_alike}
use Rattle.design.specs.Loaded.{design_at}
use Rattle.design.specs.declared.Shape.{Shape}
use Rattle.layout.specs.Sizes.{Fits}
use Rattle.steps.specs.Arrays.{padded, number_in}
use Rattle.steps.proofs.States as held
use Rattle.plan.specs.Plan.{impl_plan}
use Rattle.plan.proofs.Held.{Likewise, looks_within, looks_enough}
use Rattle.row_looks.specs.Looks.{row_of}
use Rattle.marked_edges.specs.Edges.{edges, nowhere, edge_row, edge_in, leads_in, next_in, SumsNumbered}
use Rattle.marked_edges.proofs.Edges.{leads_there, leads_nowhere, past_rows, edge_is, row_of_lem, sum_of}

-- what the design does at an array that holds a state, it does at the state
module _ (f s : List ℕ) (h : Shape) (fits : Fits h) (few : states (design_at f s h) ≤ 65536) (spans : SumsNumbered f s h.implementation) (measurable : Measurable (design_at f s h)) where
  abbrev d : Design
  d = design_at f s h

  abbrev next : ℕ → ℕ → ℕ
  next = next_in f s h

  module _ (x : State) (i : InvariantState d x) where
    abbrev v : List ℕ
    v = padded x

    holds : eval_f d.invariant x 0 ≡ true
    holds = (holds_says d.invariant x 0 i.invariant).1

    have : OthersHave d x
    have = (measurable.tenth x i.in_size).others i.invariant

    alike : (k : ℕ) → lib.ListN.get_or v k 0 ≡ lib.ListN.get_or x k 0
    alike = held.same_values x (held.state_short f s h fits x i.in_size)

    -- steps by number from x are those at its array
    next_is : (j : ℕ) → next (state_number d x) j ≡ leads_in f s h v j
    unfolding next_in
    next_is j = rw (held.array_of f s h fits x i.in_size, held.invariant_of_lem f s h fits x i.in_size, holds)

    test_is : (k e : ℕ) (r : Row) → marked_test d v k r e ≡ marked_test d x k r e
    test_is k e r = rw (formula_alike v x alike r.condition e, formula_alike v x alike (mark_of d k) e)

    -- the number of the state that a row leads to, if the invariant holds there
    number_is : (r : Row) (e : ℕ) → InvariantState d (next_state r x e) → number_in f s h.implementation (padded (next_state r v e)) ≡ state_number d (next_state r x e)
    number_is r e to =
        ap (λ y. number_in f s h.implementation (padded y)) (values_alike v x alike r.next e)
        ∙ held.number_of f s h fits (next_state r x e) to.in_size few

    -- where a step by number leads, a marked step does
    pub record Marks (t : ℕ) : Type 0 where
      pub to : State
      pub step : MarkedStep d x to
      pub inside : InvariantState d to
      pub number : state_number d to ≡ t

    pub edge_step : (j t : ℕ) → next (state_number d x) j ≡ t → t < states d → Marks t
    unfolding edge_in
    edge_step j t e l = go (edge_in f s h v j) refl
      where
        r : Row
        r = edge_row f s h j

        go : (b : Bool) → edge_in f s h v j ≡ b → Marks t
        go false z = absurd (let q : nowhere ≡ t = sym (next_is j ∙ leads_nowhere f s h v j z) ∙ e in omega arith)
        go true z = found (dec_lt (j / 256) h.implementation.rows.count)
          where
            both : (ltb (j % 256) (impl_plan f s h (j / 256)).looks ≡ true) × (marked_test d v (j / 256 + 1) r (j % 256) ≡ true)
            both = and-true (ltb (j % 256) (impl_plan f s h (j / 256)).looks) (marked_test d v (j / 256 + 1) r (j % 256)) z

            found : Dec (j / 256 < h.implementation.rows.count) → Marks t
            found (no past) = absurd (true≢false (sym z ∙ past_rows f s h v j (omega arith)))
            found (yes below) =
                let few-looks = looks_within f s h v (j / 256) below in
                let in-looks = ltb-true (j % 256) (impl_plan f s h (j / 256)).looks both.0 in
                let is : RowIs d.impl.rows (j / 256 + 1) r = row_at_is d.impl.rows (j / 256 + 1) (j % 256) (omega arith) in
                let parts = and-true (internal_b r) _ (sym (test_is (j / 256 + 1) (j % 256) r) ∙ both.1) in
                let tests = and-true (enabled_b r x (j % 256)) (marked_b d (j / 256 + 1) x (j % 256)) parts.1 in
                let zero_is = eqb-true r.action 0 parts.0 in
                let in_span : j % 256 < r.span = omega arith in
                let condition-has = has_says_f r.condition x (j % 256) ((have.impl (j / 256 + 1) r is).condition (j % 256) in_span) in
                let on : Enabled r x (j % 256) = record { in_span = in_span; condition = says_holds r.condition x (j % 256) condition-has tests.0 } in
                let has = mark_has d (j / 256 + 1) x (j % 256) (have.marks (j / 256 + 1) r is zero_is (j % 256) in_span) in
                let to : InvariantState d (next_state r x (j % 256)) = measurable.third x i (j / 256 + 1) r (j % 256) is on in
                record {
                  to = next_state r x (j % 256);
                  step = step_of d x have (record { at = j / 256 + 1; row = r; sum = j % 256; is_row = is; zero = zero_is; enabled = on; marked = holds_marked d (j / 256 + 1) x (j % 256) is zero_is has tests.1 });
                  inside = to;
                  number = sym (number_is r (j % 256) to) ∙ sym (leads_there f s h v j z) ∙ sym (next_is j) ∙ e;
                }

    pub record HasNumber (y : State) : Type 0 where
      pub edge : ℕ
      pub one : edge < edges
      pub leads : next (state_number d x) edge ≡ state_number d y

    pub step_edge : (y : State) → MarkedStep d x y → HasNumber y
    step_edge y m = go m.internal.step.at m.internal.step.is_row m.marked
      where
        r : Row
        r = m.internal.step.row

        e : ℕ
        e = m.internal.step.sum

        zero_is : r.action ≡ 0
        zero_is = m.internal.step.action ∙ m.internal.zero

        go : (k : ℕ) → RowIs d.impl.rows k m.internal.step.row → Marked d k x m.internal.step.sum → HasNumber y
        go zero is mark = absurd (nth_positive is refl)
        go (suc a) is mark = numbered (looks_enough f s h v a below e in_span)
          where
            below : a < h.implementation.rows.count
            below = let l = is_row_below is in let n = held.rows_count f s h.implementation in omega arith

            is_row : row_of f s h a ≡ m.internal.step.row
            is_row = let n : a + 1 ≡ suc a = omega arith in rw n (is_row_at is)

            in_span : m.internal.step.sum < (row_of f s h a).span
            in_span = rw is_row m.internal.step.enabled.in_span

            to : InvariantState d (next_state m.internal.step.row x m.internal.step.sum)
            to = measurable.third x i (suc a) m.internal.step.row m.internal.step.sum is m.internal.step.enabled

            numbered : Likewise d (a + 1) v (impl_plan f s h a).looks m.internal.step.sum → HasNumber y
            numbered k =
                let w = looks_within f s h v a below in
                let u = k.below in
                let few-sums : m.internal.step.row.span ≤ 256 = spans (suc a) m.internal.step.row is in
                let span-is : (row_of f s h a).span ≡ m.internal.step.row.span = ap (λ (q : Row). q.span) is_row in
                let n = fits.implementation.rows in
                let small : k.sum < 256 = omega arith in
                record {
                  edge = 256 * a + k.sum;
                  one = omega (arith, below);
                  leads = next_is (256 * a + k.sum) ∙ leads_there f s h v (256 * a + k.sum) (is_edge k) ∙ rw (row_of_lem f s h v a k.sum small, sum_of f s h v a k.sum small) (arrives k);
                }
              where
                int : internal_b (row_of f s h a) ≡ true
                int = ap internal_b is_row ∙ eq-eqb m.internal.step.row.action 0 zero_is

                is_edge : (k : Likewise d (a + 1) v (impl_plan f s h a).looks m.internal.step.sum) → edge_in f s h v (256 * a + k.sum) ≡ true
                is_edge k =
                    let w = looks_within f s h v a below in
                    let u = k.below in
                    let few-sums : m.internal.step.row.span ≤ 256 = spans (suc a) m.internal.step.row is in
                    let span-is : (row_of f s h a).span ≡ m.internal.step.row.span = ap (λ (q : Row). q.span) is_row in
                    let enabled : enabled_b (row_of f s h a) v m.internal.step.sum ≡ true = formula_alike v x alike (row_of f s h a).condition e ∙ rw is_row (holds_says m.internal.step.row.condition x e m.internal.step.enabled.condition).1 in
                    let a-is : a + 1 ≡ suc a = omega arith in
                    let marked : marked_b d (a + 1) v m.internal.step.sum ≡ true = formula_alike v x alike (mark_of d (a + 1)) e ∙ rw a-is (marked_holds d (suc a) x e mark).1 in
                    edge_is f s h v a k.sum (omega arith) ∙ rw (lt-ltb k.sum (impl_plan f s h a).looks u, int, k.on, enabled, k.marked int, marked)

                arrives : (k : Likewise d (a + 1) v (impl_plan f s h a).looks m.internal.step.sum)
                    → number_in f s h.implementation (padded (next_state (row_of f s h a) v k.sum)) ≡ state_number d y
                arrives k =
                    ap (λ z. number_in f s h.implementation (padded z)) (k.next ∙ ap (λ (q : Row). next_state q v e) is_row)
                    ∙ number_is m.internal.step.row e to ∙ ap (state_number d) m.internal.step.goes.same
