-- Demand 2 (00), with ten criteria and two ways of acceptance (02, orders 5 and 6): "A check accepts exactly if all nine criteria .. hold
-- ... Otherwise it reports a failed start, or else the lowest failing state, there the lowest criterion, then row, then sum value, however
-- the walk was divided among calls." What verdict a design has to get is `Demand2` in criteria/specs/Verdict; here, that every check of a
-- design text comes to that one, by the functions' contracts (specs/Contracted). It holds: `claim2` in proofs/Demand2.
use Rattle.std.specs.Prelude.{ℕ, ◌≤◌, min, ◌≡◌, ◌≢◌, List, ◌++◌, length, drop}
use Rattle.writer.specs.Report as bytes
use Rattle.criteria.specs.Design.{states}
use Rattle.criteria.specs.Verdict.{Verdict, Demand2}
use Rattle.design.specs.Lines.{design_text}
use Rattle.design.specs.Faults.{DesignText}
use Rattle.desk.specs.declared.Desk.{Desk}
use Rattle.answers.specs.declared.Phase.TheVariants as phase
use Rattle.desk.specs.declared.AfterAdvance.{AfterAdvance}
use Rattle.desk.specs.declared.AfterVerdict.{AfterVerdict}
use Rattle.answers.specs.Answers.{Decided, verdict_numbers}
use Rattle.stages.specs.Said.{said_verdict}
use Rattle.stages.specs.Count.{stop_of, Due}
use Rattle.checker.specs.OneCall.{design_report}
use Rattle.claims.specs.Calls.{Called, Walked}
use Rattle.claims.specs.Contracted.{Advances, Tells, Checks, Calls}

-- of a text and a verdict: every check of it comes to that one
pub record Comes (text : List ℕ) (v : Verdict) : Type 0 where
  -- a load and advances by m in all, divided anyhow: once m is the states or more the desk is decided, if it wasn't before
  pub ends : {calls : List Called} {desk : Desk} {m k : ℕ} → Calls calls desk → Walked calls text m k → states (design_text text) ≤ m → Decided desk.phase
  -- decided, it tells the verdict, and the numbers of its report
  pub tells : {calls : List Called} {desk : Desk} {m k : ℕ} {r : AfterVerdict} → Calls calls desk → Walked calls text m k → Decided desk.phase
      → Tells desk r → (r.answer ≡ said_verdict v) × (verdict_numbers r.answer ≡ design_report v)
  -- open, it answers each advance by one state or more with what is due by the verdict, and is decided when that is due
  pub advances : {calls : List Called} {desk : Desk} {m k n : ℕ} {r : AfterAdvance} → Calls calls desk → Walked calls text m k → desk.phase ≡ phase.Open
      → n ≢ 0 → Advances desk n r → Due (design_text text) v m n r.answer r.desk.phase
  -- the answers counted m states, or as many as there are till the check is decided
  pub counts : {calls : List Called} {desk : Desk} {m k : ℕ} → Calls calls desk → Walked calls text m k → k ≡ min m (stop_of (design_text text) v)
  -- the one-call check with a long enough buffer answers it and writes its report
  pub answers : {report after : List ℕ} {r : ℕ} → Checks text report r after → 31 ≤ length report → r ≡ (design_report v).verdict
  pub reports : {report after : List ℕ} {r : ℕ} → Checks text report r after → 31 ≤ length report
      → after ≡ bytes.report_bytes (design_report v) ++ drop 31 report

-- the verdict that demand 2 asks for, to which every check comes
pub record Checked (text : List ℕ) : Type 0 where
  pub verdict : Verdict
  pub is : Demand2 (design_text text) verdict
  pub comes : Comes text verdict

-- every design text has it
abbrev pub Claim2 : Type 0
Claim2 = (text : List ℕ) → DesignText text → Checked text
