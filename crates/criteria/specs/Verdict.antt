-- The verdict of a check and its report, and which verdict a design has to get: demand 2 (00; 01, "The desk"; 02, order 6).
use Rattle.std.specs.Prelude.{◌≡◌, ◌↔◌}
use Rattle.verdicts.specs.declared.Report as words
use Rattle.verdicts.specs.Report.{accepted_number}
use Rattle.verdicts.specs.declared.Acceptance as ways
use Rattle.verdicts.specs.declared.Acceptance.TheVariants.{AsIs, AfterInternal}
use Rattle.criteria.specs.Design.{Design, initial_state}
use Rattle.criteria.specs.Step.{NoInternal, SomeInternal}
use Rattle.criteria.specs.Criteria.{Meets}
use Rattle.criteria.specs.Failure.{Failure, LowestFailure}

-- "Equal as is, or after a first internal step."
abbrev pub Acceptance : Type 0
Acceptance = ways.Acceptance

pub data Verdict : Type 0 where
  accepted : Acceptance → Verdict
  failed : Failure → Verdict

-- "Accepted", either way
abbrev pub IsAccepted : Verdict → Type 0
IsAccepted v = (how : Acceptance) × (v ≡ accepted how)

-- "verdict (0, 1, 2), criterion or turned-down number, state, row, sum value; unused fields are 0"; since order 6 also 3
abbrev pub Report : Type 0
Report = words.Report

-- the report of a check that came to its end
abbrev pub report_of : Verdict → Report
report_of (accepted how) = record { verdict = accepted_number how; number = 0; state = 0; row = 0; sum = 0 }
report_of (failed x) = record { verdict = 1; number = x.criterion; state = x.state; row = x.row; sum = x.sum }

-- demand 2 of a verdict on a design
pub record Demand2 (d : Design) (v : Verdict) : Type 0 where
  -- "A check accepts exactly if all nine criteria", now ten, ".. hold: the start's in the initial state, the others in every state where the
  -- invariant holds", 10 in every state.
  pub accepts : IsAccepted v ↔ Meets d
  -- "Verdict 0 is now given only if no internal row, marked or not, is enabled in the initial state; other accepted tables get verdict 3"
  pub as_is : (v ≡ accepted AsIs) ↔ (Meets d × NoInternal d.impl (initial_state d.impl))
  pub after_internal : (v ≡ accepted AfterInternal) ↔ (Meets d × SomeInternal d.impl (initial_state d.impl))
  -- "Otherwise it reports a failed start, or else the lowest failing state, there the lowest criterion, then row, then sum value"
  pub reports : (x : Failure) → (v ≡ failed x) ↔ LowestFailure d x
