-- Where the criteria hold: steps stay inside, internal steps keep the mapped state, and marked ones lower the measure; so runs end, and
-- some run reaches a focus point, whichever marked steps it takes.
use mathlib.Core.Path.{◌≡◌, refl, ◌∙◌, subst}
use mathlib.Core.Logic.{◌⊎◌, inl, inr}
use Prim.Native.Nat.{ℕ, zero, suc, ◌+◌, ◌≤◌, ◌<◌}
use native.Mathlib.Omega.{arith}
use native.Mathlib.Nat.{le_refl}
use Rattle.foundation.proofs.Nth.{nth_nil, nth_cons}
use Rattle.criteria.specs.Design.{Design, State, InvariantState, mapped, measure_at}
use Rattle.criteria.specs.Step.{Label, Step, Internal, MarkedStep, FocusPoint, Steps, Chain, Run, none, more, CantGoOn, next_state}
use Rattle.criteria.specs.Criteria.{Criteria, OthersHave}
use Rattle.criteria.specs.Bisimilar.{Stays, RunKept, Reaches}
use Rattle.criteria.proofs.Rows.{SomeMarked, focus_or_marked, step_of}

-- a state where nothing goes on is a focus point, where all have values
pub stopped_focus : (d : Design) (s : State) → OthersHave d s → CantGoOn d s → FocusPoint d s
stopped_focus d s have stop k r e is z on mark =
    stop (next_state r s e) (step_of d s have (record { at = k; row = r; sum = e; is_row = is; zero = z; enabled = on; marked = mark }))

-- a run is a chain
pub run_chain : (d : Design) {s s' : State} {n : ℕ} → Run d s n s' → Chain d s n s'
run_chain d none = none
run_chain d (more t run) = more t.internal (run_chain d run)

module _ (d : Design) (have : (s : State) → InvariantState d s → OthersHave d s) (others : (s : State) → InvariantState d s → Criteria d s) where
  -- criterion 3
  pub step_inside_lem : (s s' : State) (l : Label) → InvariantState d s → Step d.impl l s s' → InvariantState d s'
  step_inside_lem s s' l i st = subst (InvariantState d) st.goes.same ((others s i).third st.at st.row st.sum st.is_row st.enabled)

  pub internal_inside : (s s' : State) → InvariantState d s → Internal d.impl s s' → InvariantState d s'
  internal_inside s s' i t = step_inside_lem s s' t.label i t.step

  -- criterion 4
  pub internal_mapped : (s s' : State) → InvariantState d s → Internal d.impl s s' → mapped d s' ≡ mapped d s
  internal_mapped s s' i t =
      let st = t.step in
      subst (λ u. mapped d u ≡ mapped d s) st.goes.same ((others s i).fourth st.at st.row st.sum st.is_row st.enabled (st.action ∙ t.zero)).same

  -- criterion 5
  pub marked_measure : (s s' : State) → InvariantState d s → MarkedStep d s s' → measure_at d s' < measure_at d s
  marked_measure s s' i t =
      let st = t.internal.step in
      subst (λ u. measure_at d u < measure_at d s) st.goes.same
      ((others s i).fifth st.at st.row st.sum st.is_row st.enabled (st.action ∙ t.internal.zero) t.marked).1

  -- a run of n steps lowers the measure by n at least
  pub record Along (s : State) (n : ℕ) (s' : State) : Type 0 where
    pub inside : InvariantState d s'
    pub same_mapped : mapped d s' ≡ mapped d s
    pub lowered : measure_at d s' + n ≤ measure_at d s

  pub along : (s s' : State) (n : ℕ) → InvariantState d s → Run d s n s' → Along s n s'
  along s s' n i none = record { inside = i; same_mapped = refl; lowered = omega arith }
  along s s' n i (more {u = u} {n = k} t run) =
      let falls = marked_measure s u i t in
      let r = along u s' k (internal_inside s u i t.internal) run in
      record { inside = r.inside; same_mapped = r.same_mapped ∙ internal_mapped s u i t.internal; lowered = omega arith }

  -- every list of internal steps stays
  stays_along : {Goes : State → State → Type 0} → ((u w : State) → Goes u w → Internal d.impl u w) → (s s' : State) (n : ℕ) → InvariantState d s → (steps : Steps Goes s n s') → Stays d steps
  stays_along goes s s' n i none = nth_cons (λ u. InvariantState d u × (mapped d u ≡ mapped d s)) (i, refl) (λ k u at. absurd (nth_nil at))
  stays_along goes s s' n i (more {u = v} {n = m} t rest) =
      nth_cons (λ u. InvariantState d u × (mapped d u ≡ mapped d s)) (i, refl)
      (λ k u at. let r = stays_along goes v s' m (internal_inside s v i (goes s v t)) rest k u at in (r.0, r.1 ∙ internal_mapped s v i (goes s v t)))

  pub chain_stays : (s : State) → InvariantState d s → (n : ℕ) (s' : State) (chain : Chain d s n s') → Stays d chain
  chain_stays s i n s' chain = stays_along (λ u w t. t) s s' n i chain

  pub run_kept : (s : State) → InvariantState d s → (n : ℕ) (s' : State) (run : Run d s n s') → RunKept d run
  run_kept s i n s' run =
      let r = along s s' n i run in
      record { at_most = omega arith; stays = stays_along (λ u w t. t.internal) s s' n i run; stopped = stopped_focus d s' (have s' r.inside) }

  -- any marked step will do at each stage; the measure says how often
  reach_by : (limit : ℕ) (s : State) → OthersHave d s → measure_at d s ≤ limit → ((s' : State) → MarkedStep d s s' → Reaches d s' × (measure_at d s' < measure_at d s)) → FocusPoint d s ⊎ SomeMarked d s → Reaches d s
  reach_by limit s all h go (inl f) = record { length = 0; end = s; run = none; within = omega arith; focus = f }
  reach_by limit s all h go (inr i) =
      let t = step_of d s all i in
      let g = go (next_state i.row s i.sum) t in
      let r = g.0 in
      let near = r.within in
      let falls = g.1 in
      record { length = suc r.length; end = r.end; run = more t r.run; within = omega arith; focus = r.focus }

  reach : (limit : ℕ) (s : State) → InvariantState d s → measure_at d s ≤ limit → Reaches d s
  reach zero s i h = reach_by zero s (have s i) h (λ s' t. absurd (let falls = marked_measure s s' i t in omega arith)) (focus_or_marked d s (have s i))
  reach (suc limit) s i h =
      reach_by (suc limit) s (have s i) h
      (λ s' t. (reach limit s' (internal_inside s s' i t.internal) (let falls = marked_measure s s' i t in omega arith), marked_measure s s' i t)) (focus_or_marked d s (have s i))

  pub reaches : (s : State) → InvariantState d s → Reaches d s
  reaches s i = reach (measure_at d s) s i (le_refl (measure_at d s))
