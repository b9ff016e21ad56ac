-- How many states a check examines, and what an advance answers (01, "The desk"; 02, order 6), from the verdict on the design.
use Rattle.std.specs.Prelude.{ℕ, suc, ◌+◌, ◌-◌, ◌≤◌, ◌<◌, ◌≡◌, cond, eqb, ltb}
use Rattle.criteria.specs.Design.{Design, states}
use Rattle.criteria.specs.Verdict.{Verdict, accepted, failed}
use Rattle.answers.specs.declared.Phase.{Phase}
use Rattle.answers.specs.declared.Phase.TheVariants as phase
use Rattle.answers.specs.Answers.{Decided}
use Rattle.answers.specs.declared.Advance.{Advance}
use Rattle.answers.specs.declared.Advance.TheVariants as advance

-- "The check is decided when a criterion fails or the last state is done": how many are examined till then
abbrev pub stop_of : Design → Verdict → ℕ
stop_of d (accepted how) = states d
stop_of d (failed x) = cond (eqb x.criterion 1) 0 (suc x.state)

-- what the call that decides answers
abbrev pub decided_by : Verdict → ℕ → Advance
decided_by (accepted how) k = advance.Accepted how k
decided_by (failed x) k = advance.Failed k

-- "Advance returns open, accepted or failed, and how many states it examined", accepted one way or the other: by n states, at least one,
-- after m
unfoldable pub due_of : Design → Verdict → ℕ → ℕ → Advance
due_of d v m n = let stop = stop_of d v in cond (ltb (m + n) stop) (advance.Open n) (decided_by v (stop - m))

-- and the phase that it leaves: after m states and n more, the answer is what is due, and the desk is decided when all are examined
pub record Due (d : Design) (v : Verdict) (m n : ℕ) (a : Advance) (p : Phase) : Type 0 where
  pub answers : a ≡ due_of d v m n
  pub stays : m + n < stop_of d v → p ≡ phase.Open
  pub decides : stop_of d v ≤ m + n → Decided p
