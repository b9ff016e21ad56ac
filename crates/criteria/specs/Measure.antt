-- A measure made by the desk (02, orders 4 and 5): longest runs, loops, and what a measure is. Runs are those of Step: lists of marked
-- steps.
use Rattle.std.specs.Prelude.{ℕ, suc, ◌≤◌, ◌<◌}
use Rattle.foundation.specs.Nth.{Nth}
use Rattle.criteria.specs.Design.{Design, Row, State, RowIs, InSize, InvariantState}
use Rattle.criteria.specs.Step.{Run, states_of}
use Rattle.criteria.specs.Criteria.{Each, EachNumbered, Criterion3, Criterion5By, MeasureApart}

-- "the length of the longest run of marked internal steps from" s: there is a run so long, and none longer
pub record LongestRun (d : Design) (s : State) (n : ℕ) : Type 0 where
  pub end : State
  pub run : Run d s n end
  pub none_longer : (m : ℕ) (s' : State) → Run d s m s' → m ≤ n

-- "marked steps form a loop among invariant states": s is on one if a run of one step or more comes back to s, and the invariant holds all
-- along it
pub record OnLoop (d : Design) (s : State) : Type 0 where
  pub before_last : ℕ
  pub run : Run d s (suc before_last) s
  pub among : (k : ℕ) (u : State) → Nth (states_of run) k u → InvariantState d u

-- "a measure here being any 16-bit number for each state"
pub record Measure : Type 0 where
  pub at : State → ℕ
  pub fits : (s : State) → at s < 65536

-- it is one "meeting criterion 5"
abbrev pub MeetsFifth : Design → (State → ℕ) → Type 0
MeetsFifth d μ = (s : State) → InvariantState d s → EachNumbered d.impl (Criterion5By (λ x u. μ x < μ u) d s)

-- ---- where a measure is made, and where it is turned down: "18 where criterion 3 fails in some state"; "Order 4's 18 covers criterion 10 too,
-- the measure apart"

pub record Measurable (d : Design) : Type 0 where
  pub third : (s : State) → InvariantState d s → Each d.impl (Criterion3 d s)
  pub tenth : (s : State) → InSize d.impl s → MeasureApart d s

pub data Unmeasurable (d : Design) : Type 0 where
  third_fails : {s : State} {k e : ℕ} {r : Row} → InvariantState d s → RowIs d.impl.rows k r → (Criterion3 d s r e → ⊥) → Unmeasurable d
  tenth_fails : {s : State} → InSize d.impl s → (MeasureApart d s → ⊥) → Unmeasurable d
