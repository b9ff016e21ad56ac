-- What a design without a kind 8 line means, in the words of 01 and 00, which know no marks, and of missing values in those of 02, order 5:
-- focus points, criteria 5, 7 and 10, which failure is the lowest, runs and demand 3. "Without the line all steps are marked" (02, order
-- 1), so the criteria and the lowest failure are these, and demand 3 gives this: proofs/Unmarked. ("Unmarked" is 02's word for a text
-- without the line; its steps are all marked. A line whose formulas are all `10` comes to the same: proofs/Unmarked too.)
use Rattle.std.specs.Prelude.{◌≡◌, [], ℕ, ◌≤◌, ◌<◌}
use Rattle.foundation.specs.Lowest.{Lowest}
use Rattle.foundation.specs.Nth.{EachIs}
use Rattle.foundation.specs.Trial.{Place, place}
use Rattle.terms.specs.Meaning.{meant_f, Has}
use Rattle.criteria.specs.Design.{Design, Row, State, RowIs, InSize, InvariantState, Invariant, Have, Maps, HasMeasure, mapped, measure_at, initial_state, state_number}
use Rattle.criteria.specs.Step.{Enabled, InternalRow, NoInternal, ActionEnabled, Internal, Chain, next_state}
use Rattle.criteria.specs.Criteria.{Each, Criterion1, Criterion2, Criterion3, Criterion4, Criterion6, Criterion8, Criterion9, RowHas}
use Rattle.criteria.specs.Failure.{Failure, turn, start_failure, failure_at, missing}
use Rattle.criteria.specs.Bisimilar.{Bisimilar, Stays}

-- the text has no kind 8 line
abbrev pub Unmarked : Design → Type 0
Unmarked d = d.marks ≡ []

-- "A focus point is a state with no internal row enabled."
abbrev pub FocusPoint : Design → State → Type 0
FocusPoint d = NoInternal d.impl

-- 5. "An enabled internal row leads to a smaller measure (criterion 1, with the measure given)."
abbrev pub Criterion5 : Design → State → Row → ℕ → Type 0
Criterion5 d s r e = Enabled r s e → InternalRow r → HasMeasure d (next_state r s e) × (measure_at d (next_state r s e) < measure_at d s)

-- 7. "At a focus point each specification row enabled at the mapped state has its implementation row enabled, for the same sum
-- value (criterion 4)."
abbrev pub Criterion7 : Design → State → Row → ℕ → Type 0
Criterion7 d s q e = FocusPoint d s → Enabled q (mapped d s) e → ActionEnabled d.impl q.action s e

pub record Criteria (d : Design) (s : State) : Type 0 where
  pub second : Criterion2 d s
  pub third : Each d.impl (Criterion3 d s)
  pub fourth : Each d.impl (Criterion4 d s)
  pub fifth : Each d.impl (Criterion5 d s)
  pub sixth : Each d.impl (Criterion6 d s)
  pub seventh : Each d.spec (Criterion7 d s)
  pub eighth : Each d.impl (Criterion8 d s)
  pub ninth : Each d.impl (Criterion9 d s)

-- 10. "the invariant has a value, and where it holds, so do mapping, measure, all conditions .., and the data and next values of enabled
-- rows, the specification's at the mapped state included"
pub record AllHave (d : Design) (s : State) : Type 0 where
  pub mapping : Have d.mapping s 0
  pub measure : HasMeasure d s
  pub impl : EachIs d.impl.rows (λ r. RowHas r s)
  pub spec : EachIs d.spec.rows (λ q. RowHas q (mapped d s))

pub record Criterion10 (d : Design) (s : State) : Type 0 where
  pub invariant : Has (meant_f d.invariant s 0)
  pub others : Invariant d s → AllHave d s

pub record Meets (d : Design) : Type 0 where
  pub start : Criterion1 d
  pub tenth : (s : State) → InSize d.impl s → Criterion10 d s
  pub others : (s : State) → InvariantState d s → Criteria d s

-- ---- failures (Failure)

pub data FailsAt (d : Design) (s : State) : Place → Type 0 where
  second : (Criterion2 d s → ⊥) → FailsAt d s (place 2 0 0)
  third : {k e : ℕ} {r : Row} → RowIs d.impl.rows k r → (Criterion3 d s r e → ⊥) → FailsAt d s (place 3 k e)
  fourth : {k e : ℕ} {r : Row} → RowIs d.impl.rows k r → (Criterion4 d s r e → ⊥) → FailsAt d s (place 4 k e)
  fifth : {k e : ℕ} {r : Row} → RowIs d.impl.rows k r → (Criterion5 d s r e → ⊥) → FailsAt d s (place 5 k e)
  sixth : {k e : ℕ} {r : Row} → RowIs d.impl.rows k r → (Criterion6 d s r e → ⊥) → FailsAt d s (place 6 k e)
  seventh : {k e : ℕ} {q : Row} → RowIs d.spec.rows k q → (Criterion7 d s q e → ⊥) → FailsAt d s (place 7 k e)
  eighth : {k e : ℕ} {r : Row} → RowIs d.impl.rows k r → (Criterion8 d s r e → ⊥) → FailsAt d s (place 8 k e)
  ninth : {k e : ℕ} {r : Row} → RowIs d.impl.rows k r → (Criterion9 d s r e → ⊥) → FailsAt d s (place 9 k e)

pub data Fails (d : Design) : Failure → Type 0 where
  start : (Criterion1 d → ⊥) → Fails d (start_failure d)
  tenth : {s : State} → InSize d.impl s → (Criterion10 d s → ⊥) → Fails d (failure_at (state_number d s) missing)
  at : {s : State} {x : Place} → InvariantState d s → FailsAt d s x → Fails d (failure_at (state_number d s) x)

abbrev pub LowestFailure : Design → Failure → Type 0
LowestFailure d = Lowest turn (Fails d)

-- ---- demand 3

-- "A run in demand 3 is a list of internal steps, none or more": what is so of one of n steps from s to s'
pub record RunKept (d : Design) {s s' : State} {n : ℕ} (run : Chain d s n s') : Type 0 where
  -- "has at most as many steps as the state's measure"
  pub at_most : n ≤ measure_at d s
  -- "and stays where the invariant holds and the mapped state is the same"
  pub stays : Stays d run
  -- "a run that can't go on has stopped at a focus point": "It can't go on if no internal step starts where it ends."
  pub stopped : ((u : State) → Internal d.impl s' u → ⊥) → FocusPoint d s'

pub record Promised (d : Design) (s : State) : Type 1 where
  pub has_mapped : Have d.mapping s 0
  pub has_measure : HasMeasure d s
  pub bisimilar : Bisimilar d s (mapped d s)
  -- "Every run of internal steps from it, whichever enabled rows and sum values it takes"
  pub runs : (n : ℕ) (s' : State) (run : Chain d s n s') → RunKept d run

pub record Demand3 (d : Design) : Type 1 where
  pub each : (s : State) → InvariantState d s → Promised d s
  pub initial_among : InvariantState d (initial_state d.impl)
  pub initial_mapped : Maps d (initial_state d.impl) (initial_state d.spec)
