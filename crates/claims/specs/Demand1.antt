-- Demand 1 (00): "Every design text that follows the column rules and fits the limits is loaded by an empty desk, and every check of it,
-- walked to its end, gives acceptance or a named failure. Every other text, call or short report buffer is turned down with the number
-- that our list gives it, the desk stays unchanged, and of the lent memory only the report may be written, where its buffer is long
-- enough." Calls are those of the functions' contracts (specs/Contracted); a measure's slice may be written too, where the call is done (02,
-- order 4; specs/Measures). It holds: `claim1` in proofs/Demand1.
use Rattle.std.specs.Prelude.{ℕ, ◌≤◌, ◌<◌, ◌≡◌, ◌≢◌, ◌⊎◌, List, length}
use Rattle.verdicts.specs.declared.Acceptance.{Acceptance}
use Rattle.verdicts.specs.Report.{accepted_number}
use Rattle.criteria.specs.Design.{states}
use Rattle.design.specs.Lines.{design_text}
use Rattle.design.specs.Faults.{DesignText}
use Rattle.answers.specs.declared.Phase.TheVariants as phase
use Rattle.answers.specs.declared.Done.TheVariants as done
use Rattle.answers.specs.declared.Measured.TheVariants as measured
use Rattle.desk.specs.declared.Desk.{Desk}
use Rattle.desk.specs.declared.AfterLoad.{AfterLoad}
use Rattle.desk.specs.declared.AfterVerdict.{AfterVerdict}
use Rattle.desk.specs.declared.AfterMeasure.{AfterMeasure}
use Rattle.desk.specs.declared.AfterDrop.{AfterDrop}
use Rattle.desk.specs.Desk.{empty_desk}
use Rattle.claims.specs.Calls.{Called, Walked}
use Rattle.conversion.specs.Result.{Way, TurnedDown}
use Rattle.claims.specs.Contracted.{Loads, Tells, Makes, Drops, Checks, Writes, Calls, AsksNothing, Answered}
use Rattle.claims.specs.Outcomes.{Opens, Named, TurnsDown, Refusals}

pub record Claim1 : Type 0 where
  -- nothing is asked of a caller, and every call has an answer
  pub asks_nothing : AsksNothing
  pub answered : Answered
  -- "Every design text .. is loaded by an empty desk"
  pub loaded : {desk : Desk} {text : List ℕ} {r : AfterLoad} → DesignText text → Loads desk text r → desk.phase ≡ phase.Empty → Opens text r
  -- "and every check of it, walked to its end, gives acceptance or a named failure": by load, advances that add up to the states, and
  -- verdict; and in one call with a long enough buffer
  pub walked : {text : List ℕ} {calls : List Called} {desk : Desk} {m k : ℕ} {r : AfterVerdict} → DesignText text → Calls calls desk
      → Walked calls text m k → states (design_text text) ≤ m → Tells desk r → Named r.answer
  pub checked : {text report after : List ℕ} {r : ℕ} → DesignText text → Checks text report r after → 31 ≤ length report
      → ((how : Acceptance) × (r ≡ accepted_number how)) ⊎ (r ≡ 1)
  -- "Every other text"
  pub other_text : (desk : Desk) (text : List ℕ) → (DesignText text → ⊥) → TurnsDown desk text
  -- ".. call": and a drop that is done leaves a new desk
  pub other_call : (desk : Desk) → Refusals desk
  pub dropped : (desk : Desk) {r : AfterDrop} → Drops desk r → desk.phase ≢ phase.Empty → r ≡ record { answer = done.Done; desk = empty_desk }
  -- of a measure: whatever it answers the desk stays, and one that is turned down writes nothing
  pub other_measure : {desk : Desk} {slice after : List ℕ} {r : AfterMeasure} → Makes desk slice r after
      → (r.desk ≡ desk) × ((k : ℕ) → r.answer ≡ measured.TurnedDown k → after ≡ slice)
  -- ".. or short report buffer": 9, and nothing is written
  pub short_report : {text report after : List ℕ} {r : ℕ} → Checks text report r after → length report < 31 → (r ≡ 9) × (after ≡ report)
  -- and of the writers (02, order 2): the first number that is due, the length 0, and nothing is written
  pub other_writing : {way : Way} {text buffer after : List ℕ} {n r : ℕ} → Writes way text buffer n r after → n ≢ 0
      → TurnedDown way text (length buffer) n × ((r ≡ 0) × (after ≡ buffer))
