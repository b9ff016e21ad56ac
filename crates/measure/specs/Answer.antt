-- What a measure answers and writes (02, orders 4 and 5), in the words of criteria/specs/Measure: d is the design, `before` and `after`
-- what the slice holds before the call and after it.
use Rattle.std.specs.Prelude.{◌≡◌, true, List, ℕ, ◌<◌, ◌≤◌, length, get_or, Result, Ok, Err}
use Rattle.limits.specs.Limits.{max_states}
use Rattle.criteria.specs.Design.{Design, State, InSize, Invariant, InvariantState, states, state_number}
use Rattle.criteria.specs.Measure.{LongestRun, OnLoop, Measurable, Unmeasurable}
use Rattle.design.specs.Loaded.{design_in}
use Rattle.design.specs.declared.Counts.{Counts}
use Rattle.layout.specs.Sizes.{counts_fit, shape_of}
use Rattle.marked_edges.specs.Edges.{SumsNumbered}
use Rattle.answers.specs.declared.Measured.{Measured}
use Rattle.answers.specs.declared.Measured.TheVariants.{Filled, Loop, TurnedDown}
use Rattle.longest_runs.specs.Runs.{KeptPast}

-- ---- the slice

-- the number that a slice has for a state
abbrev pub number_at : Design → List ℕ → State → ℕ
number_at d slice s = get_or slice (state_number d s) 0

-- "the length of the longest run of marked internal steps from each invariant state, 0 elsewhere"; it is a number below that of the states
pub record LongestRuns (d : Design) (slice : List ℕ) : Type 0 where
  pub inside : (s : State) → InvariantState d s → LongestRun d s (number_at d slice s)
  pub elsewhere : (s : State) → InSize d.impl s → (Invariant d s → ⊥) → number_at d slice s ≡ 0
  pub few : (s : State) → InSize d.impl s → number_at d slice s < states d

-- "0 for every state"
abbrev pub AllZero : Design → List ℕ → Type 0
AllZero d slice = (s : State) → InSize d.impl s → number_at d slice s ≡ 0

-- ---- the answer, where the slice has room

-- "18 where criterion 3 fails in some state", and now criterion 10, "the measure apart"; "If marked steps form a loop among invariant
-- states, write 0 for every state and name some state on one": which state is free
pub data Made (d : Design) (before after : List ℕ) : Measured → Type 0 where
  leaves : Unmeasurable d → after ≡ before → Made d before after (TurnedDown 18)
  filled : Measurable d → KeptPast (states d) before after → LongestRuns d after → Made d before after Filled
  loop : (s : State) → Measurable d → KeptPast (states d) before after → AllZero d after → OnLoop d s → Made d before after (Loop (state_number d s))

-- two answers that are the same, the state that is named apart
pub data SameAnswer : Measured → Measured → Type 0 where
  both_filled : SameAnswer Filled Filled
  both_loop : (j k : ℕ) → SameAnswer (Loop j) (Loop k)
  both_refused : (k : ℕ) → SameAnswer (TurnedDown k) (TurnedDown k)

-- ---- "17 for a slice shorter than the number of states"

-- a slice of n places has one for each state. Of arrays that no load made the counts may not fit, a span may be over 256, and there may be
-- more states than numbers of 16 bits: no slice has room for these.
pub record HasRoom (f s : List ℕ) (c : Counts) (n : ℕ) : Type 0 where
  pub counts : counts_fit c ≡ true
  pub spans : SumsNumbered f s (shape_of c).implementation
  pub places : states (design_in f s c) ≤ n
  pub numbers : states (design_in f s c) ≤ max_states

pub data MeasureIn (f s : List ℕ) (c : Counts) (before after : List ℕ) : Measured → Type 0 where
  short : (HasRoom f s c (length before) → ⊥) → after ≡ before → MeasureIn f s c before after (TurnedDown 17)
  has_room : {r : Measured} → HasRoom f s c (length before) → Made (design_in f s c) before after r → MeasureIn f s c before after r

-- what the search found, as an answer
abbrev pub answer_of : Result (Unit {0}) ℕ → Measured
answer_of (Ok u) = Filled
answer_of (Err s) = Loop s
