-- Demand 3 (00; 01, "What demand 3 speaks of"; 02, orders 1 and 6): "a single claim about every such list and every such check". What is
-- promised of a design is `Demand3` in criteria/specs/Bisimilar; here, that it is so of every design text that is accepted anywhere, by the
-- functions' contracts (specs/Contracted), that every good text is accepted, and that a text without marks means what it would if there were
-- none. It holds: `claim3` in proofs/Demand3.
use Rattle.std.specs.Prelude.{ℕ, ◌≤◌, ◌≡◌, ◌↔◌, List, length}
use Rattle.foundation.specs.Walk.{total}
use Rattle.verdicts.specs.declared.Acceptance.{Acceptance}
use Rattle.verdicts.specs.Report.{accepted_number}
use Rattle.criteria.specs.Design.{states}
use Rattle.criteria.specs.Criteria.{Meets}
use Rattle.criteria.specs.Failure.{Failure, LowestFailure}
use Rattle.criteria.specs.Bisimilar.{Demand3}
use Rattle.criteria.specs.Unmarked as plain
use Rattle.reader.specs.Text.{fields_by_line}
use Rattle.design.specs.Lines.{count_of, design_text}
use Rattle.design.specs.Faults.{DesignText}
use Rattle.desk.specs.declared.Desk.{Desk}
use Rattle.claims.specs.Calls.{Called, AcceptedAs, Walked, LoadThen}
use Rattle.claims.specs.Contracted.{Checks, Calls}
use Rattle.claims.specs.Outcomes.{Accepted}

-- a list of calls that loads the text on a new desk and then advances by these numbers, and accepts it in this way
pub record AcceptedBy (how : Acceptance) (text ns : List ℕ) : Type 0 where
  pub calls : List Called
  pub desk : Desk
  pub made : Calls calls desk
  pub is : LoadThen text ns calls
  pub accepted : AcceptedAs how calls text

-- "Every text that keeps the column rules and the limits and meets every criterion is among these"
pub record Among (text : List ℕ) : Type 0 where
  -- in one way, the same everywhere; which it is, is in specs/Rooted
  pub how : Acceptance
  -- "both by that check with a long enough buffer": there is one, and every one answers so
  pub check : (report : List ℕ) → 31 ≤ length report → (after : List ℕ) × Checks text report (accepted_number how) after
  pub every_check : {report after : List ℕ} {r : ℕ} → Checks text report r after → 31 ≤ length report → r ≡ accepted_number how
  -- "and by load and then advances to the end": however they are divided there is such a list, and every one accepts
  pub list : (ns : List ℕ) → states (design_text text) ≤ total ns → AcceptedBy how text ns
  pub every_list : {calls : List Called} {desk : Desk} {m k : ℕ} → Calls calls desk → Walked calls text m k → states (design_text text) ≤ m
      → AcceptedAs how calls text

-- "Without the line all steps are marked": the criteria and the lowest failure are those of 01 and, of missing values, of 02, order 5; and
-- what is accepted keeps demand 3 as 00 words it, of every run of internal steps (criteria/specs/Unmarked)
pub record AsUnmarked (text : List ℕ) : Type 1 where
  pub criteria : Meets (design_text text) ↔ plain.Meets (design_text text)
  pub failure : (x : Failure) → LowestFailure (design_text text) x ↔ plain.LowestFailure (design_text text) x
  pub keeps : Accepted text → plain.Demand3 (design_text text)

pub record Claim3 : Type 1 where
  pub keeps : (text : List ℕ) → Accepted text → DesignText text × Demand3 (design_text text)
  pub all_good : (text : List ℕ) → DesignText text → Meets (design_text text) → Among text
  -- of a text without a kind 8 line
  pub without_marks : (text : List ℕ) → count_of 8 (fields_by_line text) ≡ 0 → AsUnmarked text
