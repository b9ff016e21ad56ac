-- The turns of the loops over sum values, rows and states, and that what is so of the arrays is so of the design.
use mathlib.Core.Path.{◌≡◌, refl, sym, ◌∙◌, ap, subst}
use mathlib.Core.Bool.{Bool, true, false, not, true≢false}
use mathlib.Core.List.{List}
use Prim.Native.Nat.{ℕ, zero, suc, ◌+◌, ◌≤◌, ◌<◌}
use native.Mathlib.Omega.{arith}
use native.Mathlib.Decide.{dec_lt}
use borrow.Author.Tests.{not-true, not-false}
use lib.ListN.{length, length-map, get_or}
use Rattle.foundation.proofs.Reflects.{says_yes, says_no, is_so, by_below}
use Rattle.foundation.specs.Radix.{values_of, below_b}
use Rattle.terms.proofs.Meaning.{holds_says, says_holds, has_says_f}
use Rattle.foundation.proofs.Nth.{nth_positive}
use Rattle.foundation.proofs.Radix.{number_below, values_below}
use Rattle.criteria.specs.Design.{Design, Row, State, RowIs, InSize, InvariantState, sizes, states, state_number}
use Rattle.criteria.specs.Step.{next_state}
use Rattle.criteria.specs.Criteria.{Each, Criterion3, MeasureApart}
use Rattle.criteria.specs.Measure.{third_fails, tenth_fails}
use Rattle.criteria.proofs.Rows.{is_row_at, is_row_below, row_at_is, and-true, true_and}
use Rattle.decision.specs.Tests.{enabled_b, invariant_b, inside_b, apart_b}
use Rattle.decision.proofs.Tests.{by_invariant, by_apart}
use Rattle.decision.proofs.Alike.{formula_alike, values_alike, apart_alike}
use Rattle.design.specs.Loaded.{design_at}
use Rattle.design.specs.declared.Shape.{Shape}
use Rattle.layout.specs.Sizes.{Fits}
use Rattle.steps.specs.Arrays.{padded, state_in, invariant_in, inside_in}
use Rattle.steps.proofs.States as held
use Rattle.plan.specs.Plan.{plan_in, impl_plan}
use Rattle.tenth.specs.Tenth.{apart_as_read}
use Rattle.tenth.proofs.Decided.{apart_held}
use Rattle.plan.proofs.Held.{row_is, Likewise, looks_within, looks_enough}
use Rattle.row_looks.specs.Looks.{next_from, row_of, IsAt, FoundOn, NoneOn}
use Rattle.row_looks.specs.declared.Row as looks
use Rattle.row_looks.specs.declared.Look.{Look}
use Rattle.measurable.specs.Measurable.{LeadsInside, RowStays, stays, leaves, RowsStay, stay, one_leaves, StateStays, lacks, outside, inside, CanMeasure, can, cannot}

-- ---- the sum values of a row

-- where the row leads for e, if it is enabled
abbrev Inside : List ℕ → List ℕ → List ℕ → Shape → ℕ → ℕ → Type 0
Inside f s v h i e = LeadsInside (design_at f s h) v (row_of f s h i) e

pub record StaysTo (f s v : List ℕ) (h : Shape) (i : ℕ) (row : looks.Row) (sum : ℕ) : Type 0 where
  pub all : (e : ℕ) → e < sum → e < row.looks → Inside f s v h i e

pub stays_starts : (f s v : List ℕ) (h : Shape) (i : ℕ) (row : looks.Row) → StaysTo f s v h i row 0
stays_starts f s v h i row = record { all = λ e l. absurd (omega arith) }

module _ (f s v : List ℕ) (h : Shape) (i : ℕ) (fits : Fits h) (below : i < h.implementation.rows.count) (row : looks.Row) (here : IsAt f s h i v row) where
  abbrev d : Design
  d = design_at f s h

  abbrev r : Row
  r = row_of f s h i

  abbrev UpTo : ℕ → Type 0
  UpTo = StaysTo f s v h i row

  next_length : (e : ℕ) → length (next_state r v e) ≡ h.implementation.parameters.count
  next_length e = length-map r.next _ ∙ ap (λ (q : Row). length q.next) (row_is f s h.implementation i below) ∙ held.in_length h.implementation.parameters.count _

  -- one look for each that needs it does for all
  all_stay : (sum : ℕ) → row.looks ≤ sum → UpTo sum → RowStays d v r true
  all_stay sum past g = stays (λ e u y. go e (looks_enough f s h v i below e u) y)
    where
      go : (e : ℕ) → Likewise d (i + 1) v (impl_plan f s h i).looks e → enabled_b r v e ≡ true → inside_b d (next_state r v e) ≡ true
      go e k y = ap (inside_b d) (sym k.next) ∙ looked (dec_lt k.sum row.looks)
        where
          looked : Dec (k.sum < row.looks) → inside_b d (next_state r v k.sum) ≡ true
          looked (yes u) = g.all k.sum (omega arith) u (k.on ∙ y)
          looked (no u) = absurd (true≢false (sym (k.on ∙ y) ∙ here.off k.sum (omega arith) k.below))

  -- what is found next
  module _ (sum : ℕ) (look : Look) (o : FoundOn f row v sum look) (g : UpTo sum) where
    up_to : UpTo look.sum
    up_to = record { all = λ e l u. go e l u (dec_lt e sum) }
      where
        go : (e : ℕ) → e < look.sum → e < row.looks → Dec (e < sum) → Inside f s v h i e
        go e l u (yes k) = g.all e k u
        go e l u (no k) = λ y. absurd (true≢false (sym (here.on e u ∙ y) ∙ o.none_before e (omega arith) l))

    module _ (x : List ℕ) (b : Bool) (ex : x ≡ next_from f h look.at v look.sum) (eb : b ≡ inside_in f s h x) where
      inside_is : b ≡ inside_b d (next_state r v look.sum)
      inside_is =
          let l = o.below in
          eb ∙ ap (inside_in f s h) (ex ∙ ap (λ k. next_from f h k v look.sum) o.at ∙ here.next look.sum (omega arith))
          ∙ held.inside_held f s h fits (next_state r v look.sum) (next_length look.sum)

      pub stays_fails : not b ≡ true → RowStays d v r false
      stays_fails y =
          let l = o.below in
          let m = here.most in
          let w = looks_within f s h v i below in
          leaves look.sum (record { in_span = omega arith; on = sym (here.on look.sum l) ∙ o.holds; out = sym inside_is ∙ not-true b y })

      pub stays_turns : not b ≡ false → UpTo (look.sum + 1)
      stays_turns y = record { all = λ e k u. go e k u (dec_lt e look.sum) }
        where
          go : (e : ℕ) → e < look.sum + 1 → e < row.looks → Dec (e < look.sum) → Inside f s v h i e
          go e k u (yes z) = up_to.all e z u
          go e k u (no z) = λ _. let q : e ≡ look.sum = omega arith in rw q (sym inside_is ∙ not-false b y)

  pub stays_ends : (sum : ℕ) → NoneOn f row v sum → UpTo sum → RowStays d v r true
  stays_ends sum o g = all_stay row.looks (omega arith) (record { all = λ e l u. go e u (dec_lt e sum) })
    where
      go : (e : ℕ) → e < row.looks → Dec (e < sum) → Inside f s v h i e
      go e u (yes k) = g.all e k u
      go e u (no k) = λ y. absurd (true≢false (sym (here.on e u ∙ y) ∙ o.none e (omega arith) u))

-- ---- the rows

module _ (f s v : List ℕ) (h : Shape) where
  abbrev C : ℕ → ℕ → Type 0
  C i e = e < (row_of f s h i).span → LeadsInside (design_at f s h) v (row_of f s h i) e

  pub record RowsTo (n : ℕ) : Type 0 where
    pub all : (i e : ℕ) → i < n → C i e

  pub rows_start : RowsTo 0
  rows_start = record { all = λ i e l. absurd (omega arith) }

  pub rows_fail : (i : ℕ) (b : Bool) → i < h.implementation.rows.count → RowStays (design_at f s h) v (row_of f s h i) b → not b ≡ true → RowsStay f s h v false
  rows_fail i b l (stays a) y = absurd (true≢false (sym y))
  rows_fail i b l (leaves e n) y = one_leaves i e l n

  pub rows_turn : (i : ℕ) (b : Bool) → RowStays (design_at f s h) v (row_of f s h i) b → not b ≡ false → RowsTo i → RowsTo (i + 1)
  rows_turn i b (leaves e n) y g = absurd (true≢false y)
  rows_turn i b (stays a) y g = record { all = λ j e l. go j e l (dec_lt j i) }
    where
      go : (j e : ℕ) → j < i + 1 → Dec (j < i) → C j e
      go j e l (yes k) = g.all j e k
      go j e l (no k) = let q : j ≡ i = omega arith in subst (λ n. C n e) (sym q) (a e)

  pub rows_end : (i : ℕ) → h.implementation.rows.count ≤ i → RowsTo i → RowsStay f s h v true
  rows_end i past g = stay (λ j e l. g.all j e (omega arith))

-- ---- the state

module _ (f s p v w : List ℕ) (h : Shape) (a : Bool) (ev : v ≡ w) (ep : p ≡ plan_in f s h) (ea : a ≡ apart_as_read f s h p v) (fits : Fits h) where
  apart_is : a ≡ apart_b (design_at f s h) w
  apart_is = ea ∙ ap (λ q. apart_as_read f s h q v) ep ∙ apart_held f s h fits v ∙ ap (apart_b (design_at f s h)) ev

  pub state_lacks : not a ≡ true → StateStays f s h w false
  state_lacks y = lacks (sym apart_is ∙ not-true a y)

  module _ (y : not a ≡ false) (b : Bool) (eb : b ≡ invariant_in f s h v) where
    pub state_outside : not b ≡ true → StateStays f s h w true
    state_outside z = outside (sym apart_is ∙ not-false a y) (ap (invariant_in f s h) (sym ev) ∙ sym eb ∙ not-true b z)

    pub state_inside : (r : Bool) → not b ≡ false → RowsStay f s h v r → StateStays f s h w r
    state_inside r z q = inside (sym apart_is ∙ not-false a y) (ap (invariant_in f s h) (sym ev) ∙ sym eb ∙ not-false b z) (subst (λ x. RowsStay f s h x r) ev q)

-- ---- the states

pub record StatesTo (f s : List ℕ) (h : Shape) (n : ℕ) : Type 0 where
  pub all : (k : ℕ) → k < n → StateStays f s h (state_in f s h.implementation k) true

pub states_start : (f s : List ℕ) (h : Shape) → StatesTo f s h 0
states_start f s h = record { all = λ k l. absurd (omega arith) }

module _ (f s : List ℕ) (h : Shape) (fits : Fits h) where
  abbrev design : Design
  design = design_at f s h

  abbrev at : ℕ → List ℕ
  at k = state_in f s h.implementation k

  -- what is asked at an array is asked at the state that it holds
  module _ (x : State) (in_size : InSize design.impl x) where
    agree : (i : ℕ) → get_or (padded x) i 0 ≡ get_or x i 0
    agree = held.same_values x (held.state_short f s h fits x in_size)

    there : at (state_number design x) ≡ padded x
    there = held.array_of f s h fits x in_size

    on_alike : (r : Row) (e : ℕ) → enabled_b r (padded x) e ≡ enabled_b r x e
    on_alike r e = formula_alike (padded x) x agree r.condition e

    next_alike : (r : Row) (e : ℕ) → next_state r (padded x) e ≡ next_state r x e
    next_alike r e = values_alike (padded x) x agree r.next e

    apart_there : apart_b design (padded x) ≡ true → MeasureApart design x
    apart_there y = says_yes (by_apart design x) (sym (apart_alike (padded x) x agree design) ∙ y)

  pub states_turn : (k : ℕ) (b : Bool) → StateStays f s h (at k) b → not b ≡ false → StatesTo f s h k → StatesTo f s h (k + 1)
  states_turn k b a y g = record { all = λ j l. go j l (dec_lt j k) }
    where
      go : (j : ℕ) → j < k + 1 → Dec (j < k) → StateStays f s h (at j) true
      go j l (yes u) = g.all j u
      go j l (no u) =
          let q : j ≡ k = omega arith in
          subst (λ n. StateStays f s h (at n) true) (sym q) (subst (StateStays f s h (at k)) (not-false b y) a)

  -- at every state
  module _ (n k : ℕ) (en : n ≡ states design) (past : n ≤ k) (g : StatesTo f s h k) where
    here : (x : State) → InSize design.impl x → StateStays f s h (padded x) true
    here x in_size =
        let b = number_below (sizes design.impl) x in_size in
        subst (λ w. StateStays f s h w true) (there x in_size) (g.all (state_number design x) (omega arith))

    tenth_all : (x : State) → InSize design.impl x → MeasureApart design x
    tenth_all x in_size = go (here x in_size)
      where
        go : StateStays f s h (padded x) true → MeasureApart design x
        go (outside a z) = apart_there x in_size a
        go (inside a z q) = apart_there x in_size a

    -- a state inside, by the tests, is one where the invariant holds
    inside_invariant : (x : State) → inside_b design x ≡ true → InvariantState design x
    inside_invariant x y =
        let p = and-true (below_b (sizes design.impl) x) (invariant_b design x) y in
        let in_size : InSize design.impl x = says_yes (by_below (sizes design.impl) x) p.0 in
        record { in_size = in_size; invariant = says_yes (by_invariant design x (tenth_all x in_size).invariant) p.1 }

    third_all : (x : State) → InvariantState design x → Each design.impl (Criterion3 design x)
    third_all x i j r e is on = go (here x i.in_size)
      where
        row : (m : ℕ) → RowIs design.impl.rows m r
            → ((l e : ℕ) → l < h.implementation.rows.count → e < (row_of f s h l).span → LeadsInside design (padded x) (row_of f s h l) e)
            → InvariantState design (next_state r x e)
        row zero is a = absurd (nth_positive is refl)
        row (suc m) is a =
            let k : m + 1 ≡ suc m = omega arith in
            let r-is : row_of f s h m ≡ r = rw k (is_row_at is) in
            let l = is_row_below is in
            let n = held.rows_count f s h.implementation in
            let leads = subst (λ q. e < q.span → LeadsInside design (padded x) q e) r-is (a m e (omega arith)) on.in_span in
            inside_invariant (next_state r x e)
            (ap (inside_b design) (sym (next_alike x i.in_size r e)) ∙ leads (on_alike x i.in_size r e ∙ (holds_says r.condition x e on.condition).1))

        go : StateStays f s h (padded x) true → InvariantState design (next_state r x e)
        go (outside _ z) =
            absurd (true≢false (sym (holds_says design.invariant x 0 i.invariant).1 ∙ sym (held.invariant_of_lem f s h fits x i.in_size) ∙ z))
        go (inside _ _ (stay a)) = row j is a

    pub states_end : CanMeasure design true
    states_end = can (record { third = third_all; tenth = tenth_all })

  pub states_fail : (n k : ℕ) (b : Bool) → n ≡ states design → k < n → StateStays f s h (at k) b → not b ≡ true → CanMeasure design false
  states_fail n k b en l a y = go a y
    where
      x : State
      x = values_of (sizes design.impl) k

      in_size : InSize design.impl x
      in_size = values_below (sizes design.impl) k (omega arith)

      is_there : at k ≡ padded x
      is_there = held.state_held f s h.implementation fits.implementation k (omega arith)

      apart_said : (b : Bool) → apart_b design (at k) ≡ b → apart_b design x ≡ b
      apart_said b z = sym (apart_alike (padded x) x (agree x in_size) design) ∙ ap (apart_b design) (sym is_there) ∙ z

      go : {c : Bool} → StateStays f s h (at k) c → not c ≡ true → CanMeasure design false
      go (lacks z) w = cannot (tenth_fails in_size (says_no (by_apart design x) (apart_said false z)))
      go (outside p z) w = absurd (true≢false (sym w))
      go (inside p z (stay q)) w = absurd (true≢false (sym w))
      go (inside p z (one_leaves i e u o)) w =
          let apart : MeasureApart design x = says_yes (by_apart design x) (apart_said true p) in
          let holds = says_yes (by_invariant design x apart.invariant) (sym (held.invariant_of_lem f s h fits x in_size) ∙ ap (invariant_in f s h) (sym is_there) ∙ z) in
          let r : Row = row_of f s h i in
          let is = row_at_is design.impl.rows (i + 1) e o.in_span in
          let has = has_says_f r.condition x e (((apart.others holds).impl (i + 1) r is).condition e o.in_span) in
          let on : enabled_b r x e ≡ true = sym (on_alike x in_size r e) ∙ ap (λ w. enabled_b r w e) (sym is_there) ∙ o.on in
          let out : inside_b design (next_state r x e) ≡ false = ap (inside_b design) (sym (next_alike x in_size r e) ∙ ap (λ w. next_state r w e) (sym is_there)) ∙ o.out in
          cannot (third_fails (record { in_size = in_size; invariant = holds }) is
          (λ third. true≢false (sym (inside_so (next_state r x e) (third (record { in_span = o.in_span; condition = says_holds r.condition x e has on }))) ∙ out)))
        where
          -- where the invariant holds the tests say inside
          inside_so : (z : State) → InvariantState design z → inside_b design z ≡ true
          inside_so z i = true_and _ _ (is_so (by_below (sizes design.impl) z) i.in_size) (holds_says design.invariant z 0 i.invariant).1
