-- A measure made by the desk (02, order 4): "fill a lent slice of 16-bit numbers with the length of the longest run of marked internal
-- steps from each invariant state, 0 elsewhere. If marked steps form a loop among invariant states, write 0 for every state and name some
-- state on one. Where the slice is filled, a measure meeting criterion 5 exists exactly if no loop is named, a measure here being any
-- 16-bit number for each state; the one written is nowhere larger than any that does. Answers: after 11, 17 for a slice shorter than the
-- number of states, then 18 where criterion 3 fails in some state." "Order 4's 18 covers criterion 10 too, the measure apart" (order 5).
-- Runs, loops and measures are in criteria/specs/Measure; calls are those of the functions' contracts (specs/Contracted). 11 is
-- `measure_empty` of `Refusals`, and 1 to 7 of a text `by_measuring` of `TurnsDown`, in specs/Outcomes. It holds: `measures` in
-- proofs/Measures.
use Rattle.std.specs.Prelude.{ℕ, ◌≤◌, ◌<◌, ◌≡◌, ◌≢◌, ◌⊎◌, ◌↔◌, List, length}
use Rattle.criteria.specs.Design.{Design, State, InSize, states, state_number}
use Rattle.criteria.specs.Measure.{OnLoop, Measure, Measurable, Unmeasurable, MeetsFifth}
use Rattle.design.specs.Lines.{design_text}
use Rattle.design.specs.Faults.{DesignText}
use Rattle.answers.specs.declared.Measured.{Measured}
use Rattle.answers.specs.declared.Measured.TheVariants.{Filled, Loop, TurnedDown}
use Rattle.longest_runs.specs.Runs.{KeptPast}
use Rattle.measure.specs.Answer.{number_at, LongestRuns, AllZero, SameAnswer}
use Rattle.measuring.specs.Measured.{result_of, number_told}
use Rattle.desk.specs.declared.Desk.{Desk}
use Rattle.desk.specs.declared.AfterMeasure.{AfterMeasure}
use Rattle.claims.specs.Calls.{Called, Walked}
use Rattle.claims.specs.Contracted.{Makes, MakesFor, Calls}

-- a slice that holds a measure of the design
pub record Fills (d : Design) (slice : List ℕ) : Type 0 where
  -- "the length of the longest run of marked internal steps from each invariant state, 0 elsewhere"
  pub longest : LongestRuns d slice
  -- it is a measure that meets criterion 5
  pub made : Measure
  pub is : (s : State) → InSize d.impl s → made.at s ≡ number_at d slice s
  pub meets : MeetsFifth d made.at
  -- "the one written is nowhere larger than any that does"
  pub least : (μ : Measure) → MeetsFifth d μ.at → (s : State) → InSize d.impl s → number_at d slice s ≤ μ.at s

-- a slice of zeros, and the number of a state on a loop
pub record Loops (d : Design) (slice : List ℕ) (k : ℕ) : Type 0 where
  -- "0 for every state"
  pub zero : AllZero d slice
  -- "name some state on one"
  pub state : State
  pub named : state_number d state ≡ k
  pub on_loop : OnLoop d state

-- what a call came to that had this design: r is its answer, `before` and `after` what the slice held and holds
pub record MadeOf (d : Design) (before after : List ℕ) (r : Measured) : Type 0 where
  -- "17 for a slice shorter than the number of states, then 18 where criterion 3 fails in some state", or criterion 10, "the measure apart":
  -- these alone, and nothing is written
  pub short : (r ≡ TurnedDown 17) ↔ (length before < states d)
  pub leaves : (r ≡ TurnedDown 18) ↔ ((states d ≤ length before) × Unmeasurable d)
  pub refused : (k : ℕ) → r ≡ TurnedDown k → after ≡ before
  pub done : ((r ≡ Filled) ⊎ ((k : ℕ) × (r ≡ Loop k))) ↔ ((states d ≤ length before) × Measurable d)
  -- "Past a result, a lent buffer or slice keeps its content" (01)
  pub kept : KeptPast (states d) before after
  pub filled : r ≡ Filled → Fills d after
  pub loops : (k : ℕ) → r ≡ Loop k → Loops d after k
  -- "If marked steps form a loop among invariant states, .. name some state on one": and only then
  pub named : states d ≤ length before → Measurable d → ((s : State) × OnLoop d s) ↔ ((k : ℕ) × (r ≡ Loop k))
  -- "a measure meeting criterion 5 exists exactly if no loop is named"
  pub exactly : states d ≤ length before → Measurable d → ((μ : Measure) × MeetsFifth d μ.at) ↔ ((k : ℕ) → r ≢ Loop k)

pub record Measures : Type 0 where
  -- on a desk that a text was loaded to, however far its check has come; the desk stays as it is
  pub by_desk : {text slice after : List ℕ} {calls : List Called} {desk : Desk} {m k : ℕ} {r : AfterMeasure} → Calls calls desk → Walked calls text m k
      → Makes desk slice r after → (r.desk ≡ desk) × MadeOf (design_text text) slice after r.answer
  -- in one call, which tells what the answer is
  pub in_one_call : {text slice after : List ℕ} {r number : ℕ} → DesignText text → MakesFor text slice r number after
      → (a : Measured) × (MadeOf (design_text text) slice after a × ((r ≡ result_of a) × (number ≡ number_told a)))
  -- nothing else is free: two calls with the same desk and slice, or text and slice, differ at most in the state that they name
  pub determined : {slice after other : List ℕ} {desk : Desk} {r q : AfterMeasure} → Makes desk slice r after → Makes desk slice q other
      → (after ≡ other) × SameAnswer r.answer q.answer
  pub determined_in_one_call : {text slice after other : List ℕ} {r q j k : ℕ} → MakesFor text slice r j after → MakesFor text slice q k other
      → (after ≡ other) × ((r ≡ q) × (r ≢ 1 → j ≡ k))
