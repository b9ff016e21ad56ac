-- Verdicts 0 and 3 (02, order 6): "Verdict 0 means exactly: accepted, and both initial states rooted branching bisimilar." Rooted branching
-- bisimilarity is in criteria/specs/Bisimilar; calls are those of the functions' contracts (specs/Contracted). That the two verdicts go by
-- the internal rows of the initial state is demand 2 (`Demand2` in criteria/specs/Verdict), and that a report has the number in its first
-- field `reports` of `Comes` in specs/Demand2. It holds: `rooted` in proofs/Rooted.
use Rattle.std.specs.Prelude.{ℕ, ◌≡◌, ◌↔◌, List}
use Rattle.verdicts.specs.declared.Acceptance.{Acceptance}
use Rattle.verdicts.specs.declared.Acceptance.TheVariants.{AsIs, AfterInternal}
use Rattle.verdicts.specs.Report.{accepted_number}
use Rattle.criteria.specs.Design.{Design}
use Rattle.criteria.specs.Bisimilar.{InitialRooted}
use Rattle.design.specs.Lines.{design_text}
use Rattle.answers.specs.declared.Verdict.TheVariants.{Accepted}
use Rattle.desk.specs.declared.Desk.{Desk}
use Rattle.desk.specs.declared.AfterVerdict.{AfterVerdict}
use Rattle.claims.specs.Calls.{Called, AcceptedAs, Walked}
use Rattle.claims.specs.Contracted.{Tells, Checks, Calls}

-- what says in which way a design is accepted, if it says that it is
pub record Exactly (Says : Acceptance → Type 0) (d : Design) : Type 1 where
  -- "Verdict 0 means exactly: accepted, and both initial states rooted branching bisimilar."
  pub as_is : Says AsIs ↔ (((how : Acceptance) × Says how) × InitialRooted d)
  -- verdict 3: accepted, and they are not
  pub after_internal : Says AfterInternal ↔ (((how : Acceptance) × Says how) × (InitialRooted d → ⊥))

pub record Rooted : Type 1 where
  -- of every one-call check, by the number that it returns; one that returns neither 0 nor 3 says nothing
  pub by_check : {text report after : List ℕ} {r : ℕ} → Checks text report r after → Exactly (λ how. r ≡ accepted_number how) (design_text text)
  -- of every list of desk calls, by what its advances answer, each of them
  pub by_advance : {text : List ℕ} {calls : List Called} {desk : Desk} → Calls calls desk → Exactly (λ how. AcceptedAs how calls text) (design_text text)
  -- of every verdict that is told while the text is loaded
  pub by_verdict : {text : List ℕ} {calls : List Called} {desk : Desk} {m k : ℕ} {r : AfterVerdict} → Calls calls desk → Walked calls text m k → Tells desk r
      → Exactly (λ how. r.answer ≡ Accepted how) (design_text text)
