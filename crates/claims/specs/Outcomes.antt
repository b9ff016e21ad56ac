-- What a call comes to: a load that is done, calls that are turned down, a verdict that names something, a text accepted. The three
-- demands (specs/Demand1 to Demand3) are said with these.
use Rattle.std.specs.Prelude.{ℕ, ◌≤◌, ◌≡◌, ◌≢◌, List, ◌++◌, length, drop}
use Rattle.writer.specs.Report as bytes
use Rattle.verdicts.specs.declared.Failure.{Failure}
use Rattle.verdicts.specs.declared.Acceptance.{Acceptance}
use Rattle.verdicts.specs.Report.{accepted_number}
use Rattle.design.specs.Faults.{LowestFault}
use Rattle.answers.specs.declared.Phase.TheVariants as phase
use Rattle.answers.specs.declared.Done.TheVariants as done
use Rattle.answers.specs.declared.Verdict.{Verdict}
use Rattle.answers.specs.declared.Verdict.TheVariants as verdict
use Rattle.answers.specs.declared.Measured.TheVariants as measured
use Rattle.desk.specs.declared.Desk.{Desk}
use Rattle.desk.specs.declared.AfterLoad.{AfterLoad}
use Rattle.desk.specs.declared.AfterAdvance.{AfterAdvance}
use Rattle.desk.specs.declared.AfterVerdict.{AfterVerdict}
use Rattle.desk.specs.declared.AfterMeasure.{AfterMeasure}
use Rattle.desk.specs.declared.AfterDrop.{AfterDrop}
use Rattle.desk.specs.Desk.{HoldsText, not_loaded, not_advanced}
use Rattle.answers.specs.Answers.{Decided, done_number}
use Rattle.checker.specs.OneCall.{refused_report}
use Rattle.claims.specs.Calls.{Called, AcceptedIn}
use Rattle.claims.specs.Contracted.{Loads, Advances, Tells, Makes, Drops, Checks, MakesFor, Calls}

-- a load that is done: it returns 0, and the desk is open, at state 0, and holds the text's lines
pub record Opens (text : List ℕ) (r : AfterLoad) : Type 0 where
  pub number_is : done_number r.answer ≡ 0
  pub answer_is : r.answer ≡ done.Done
  pub opens : r.desk.phase ≡ phase.Open
  pub at_first : r.desk.next ≡ 0
  pub holds : HoldsText text r.desk

-- "acceptance or a named failure"
pub data Named : Verdict → Type 0 where
  acceptance : (how : Acceptance) → Named (verdict.Accepted how)
  failure : (f : Failure) → Named (verdict.Failed f)

-- a text turned down by its lowest fault: an empty desk stays, of a long enough buffer the report is written
pub record TurnsDown (desk : Desk) (text : List ℕ) : Type 0 where
  pub number : ℕ
  pub lowest : LowestFault text number
  pub by_load : {r : AfterLoad} → Loads desk text r → desk.phase ≡ phase.Empty → r ≡ not_loaded number desk
  pub by_check : {report after : List ℕ} {r : ℕ} → Checks text report r after → 31 ≤ length report
      → (r ≡ 2) × (after ≡ bytes.report_bytes (refused_report number) ++ drop 31 report)
  -- and of a slice for a measure nothing
  pub by_measuring : {slice after : List ℕ} {r k : ℕ} → MakesFor text slice r k after → (r ≡ 2) × ((k ≡ number) × (after ≡ slice))

-- "Turned down by the state", 11 to 14, and 8: for every desk in that phase, "the desk unchanged"; 17 and 18 are in specs/Measures
pub record Refusals (desk : Desk) : Type 0 where
  -- 11. "Advance, verdict or drop on an empty desk."; 02, order 4: measure
  pub advance_empty : (n : ℕ) {r : AfterAdvance} → Advances desk n r → desk.phase ≡ phase.Empty → r ≡ not_advanced 11 desk
  pub verdict_empty : {r : AfterVerdict} → Tells desk r → desk.phase ≡ phase.Empty → r ≡ record { answer = verdict.TurnedDown 11; desk = desk }
  pub measure_empty : {slice after : List ℕ} {r : AfterMeasure} → Makes desk slice r after → desk.phase ≡ phase.Empty
      → (r ≡ record { answer = measured.TurnedDown 11; desk = desk }) × (after ≡ slice)
  pub drop_empty : {r : AfterDrop} → Drops desk r → desk.phase ≡ phase.Empty → r ≡ record { answer = done.TurnedDown 11; desk = desk }
  -- 12. "Load on a desk that isn't empty."
  pub load_held : {text : List ℕ} {r : AfterLoad} → Loads desk text r → desk.phase ≢ phase.Empty → r ≡ not_loaded 12 desk
  -- 13. "Verdict while open."
  pub verdict_open : {r : AfterVerdict} → Tells desk r → desk.phase ≡ phase.Open → r ≡ record { answer = verdict.TurnedDown 13; desk = desk }
  -- 14. "Advance when decided."
  pub advance_decided : (n : ℕ) {r : AfterAdvance} → Advances desk n r → Decided desk.phase → r ≡ not_advanced 14 desk
  -- "before the input's": 8. "Advance by 0 states." is given on an open desk
  pub advance_none : {r : AfterAdvance} → Advances desk 0 r → desk.phase ≡ phase.Open → r ≡ not_advanced 8 desk

-- "every design text that the one-call check accepts, or that is accepted anywhere in any list of desk calls from a new desk"; 02, order 6:
-- "demand 3 means both" ways, verdict 0 and verdict 3
pub data Accepted (text : List ℕ) : Type 0 where
  by_desk : {calls : List Called} {desk : Desk} → Calls calls desk → AcceptedIn calls text → Accepted text
  by_one_call : {report after : List ℕ} (how : Acceptance) → Checks text report (accepted_number how) after → Accepted text
