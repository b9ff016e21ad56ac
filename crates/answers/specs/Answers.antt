-- The paper's number and values for each case of an answer, and those that a call returns by the phase of its desk (01, "The desk", "Turned
-- down by the input" 8, "Turned down by the state"; 02, order 6). What depends on the desk's arrays is in desk/specs/Answers.
use Rattle.std.specs.Prelude.{ℕ, cond, eqb}
use Rattle.verdicts.specs.declared.Report.{Report}
use Rattle.verdicts.specs.Report.{report, accepted_number}
use Rattle.verdicts.specs.declared.Failure.{Failure}
use Rattle.verdicts.specs.declared.Acceptance.{Acceptance}
use Rattle.answers.specs.declared.Phase.{Phase}
use Rattle.answers.specs.declared.Phase.TheVariants as phase
use Rattle.answers.specs.declared.Done.{Done}
use Rattle.answers.specs.declared.Done.TheVariants as done
use Rattle.answers.specs.declared.Advance.{Advance}
use Rattle.answers.specs.declared.Advance.TheVariants as advance
use Rattle.answers.specs.declared.Measured.{Measured}
use Rattle.answers.specs.declared.Measured.TheVariants as measured
use Rattle.answers.specs.declared.Verdict.{Verdict}
use Rattle.answers.specs.declared.Verdict.TheVariants as verdict

-- "A desk is empty, open or decided": accepted, one way or the other, or failed
pub data Decided : Phase → Type 0 where
  accepted : (how : Acceptance) → Decided (phase.Accepted how)
  failed : (f : Failure) → Decided (phase.Failed f)

-- ---- the numbers of answers

-- "A load or drop that is done returns 0"; "A desk call turned down returns its number"
abbrev pub done_number : Done → ℕ
done_number done.Done = 0
done_number (done.TurnedDown k) = k

-- the number by which an advance is turned down, 0 if it isn't
abbrev pub refusal_number : Advance → ℕ
refusal_number (advance.Open k) = 0
refusal_number (advance.Accepted how k) = 0
refusal_number (advance.Failed k) = 0
refusal_number (advance.TurnedDown k) = k

-- "how many states it examined"; turned down: "other numbers 0"
abbrev pub count_said : Advance → ℕ
count_said (advance.Open k) = k
count_said (advance.Accepted how k) = k
count_said (advance.Failed k) = k
count_said (advance.TurnedDown k) = 0

-- "verdict returns the report's numbers": verdict, criterion, state, row, sum value; turned down: "its number, other numbers 0"
abbrev pub verdict_numbers : Verdict → Report
verdict_numbers (verdict.Accepted how) = report (accepted_number how) 0 0 0 0
verdict_numbers (verdict.Failed f) = report 1 f.criterion f.state f.row f.sum
verdict_numbers (verdict.TurnedDown k) = report k 0 0 0 0

-- the number by which a measure is turned down; 0 if it is done: filled, or a loop is named
abbrev pub measured_number : Measured → ℕ
measured_number measured.Filled = 0
measured_number (measured.Loop k) = 0
measured_number (measured.TurnedDown k) = k

-- ---- the number that a call returns by the desk's phase; of a load, an advance or a drop 0 is done

-- 12. "Load on a desk that isn't empty."; on an empty one the text's faults come after this
abbrev pub load_number_by : Phase → ℕ
load_number_by phase.Empty = 0
load_number_by phase.Open = 12
load_number_by (phase.Accepted how) = 12
load_number_by (phase.Failed f) = 12

-- 11. "Advance, verdict or drop on an empty desk." 14. "Advance when decided." 8. "Advance by 0 states."
abbrev pub advance_number : Phase → ℕ → ℕ
advance_number phase.Empty n = 11
advance_number phase.Open n = cond (eqb n 0) 8 0
advance_number (phase.Accepted how) n = 14
advance_number (phase.Failed f) n = 14

-- 11; 13. "Verdict while open."
abbrev pub verdict_numbers_by : Phase → Report
verdict_numbers_by phase.Empty = report 11 0 0 0 0
verdict_numbers_by phase.Open = report 13 0 0 0 0
verdict_numbers_by (phase.Accepted how) = report (accepted_number how) 0 0 0 0
verdict_numbers_by (phase.Failed f) = report 1 f.criterion f.state f.row f.sum

-- 11, of a drop; and of a measure before 17 and 18 (02, order 4)
abbrev pub empty_number : Phase → ℕ
empty_number phase.Empty = 11
empty_number phase.Open = 0
empty_number (phase.Accepted how) = 0
empty_number (phase.Failed f) = 0

-- ---- the answer itself

-- "verdict returns the report's numbers"; 11; 13
abbrev pub told_by : Phase → Verdict
told_by phase.Empty = verdict.TurnedDown 11
told_by phase.Open = verdict.TurnedDown 13
told_by (phase.Accepted how) = verdict.Accepted how
told_by (phase.Failed f) = verdict.Failed f

-- "Advance returns open, accepted or failed, and how many states it examined": of one that is done, by the phase that it leaves; none leaves an
-- empty desk, where an advance is turned down
abbrev pub advanced_to : Phase → ℕ → Advance
advanced_to phase.Empty count = advance.TurnedDown 11
advanced_to phase.Open count = advance.Open count
advanced_to (phase.Accepted how) count = advance.Accepted how count
advanced_to (phase.Failed f) count = advance.Failed count
