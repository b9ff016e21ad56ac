-- A design text's specification compared with a duty's: what is returned says whether both are design texts, and whether their lines of kinds 2
-- and 4 are equal. Calls are by the function's own contract, as in specs/Contracted. It holds: `compares` in proofs/Duty.
use Rattle.std.specs.Prelude.{ℕ, ◌≡◌, ◌↔◌, List}
use Rattle.std.specs.Borrow.{Bor}
use contract.Lifetimes.{Lfts}
use Rattle.reader.specs.Text.{fields_by_line}
use Rattle.design.specs.Lines.{of_kind}
use Rattle.design.specs.Faults.{DesignText}
use Rattle.duty.proofs.same_duty.Reads as duty_reads

-- a text compared with a duty: the number that is returned
pub data Compared : List ℕ → List ℕ → ℕ → Type 0 where
  compared : (κs : Lfts 2) (text duty : Bor (List ℕ)) (r : ℕ) → duty_reads.Post κs (text, (duty, tt)) r (text, (duty, tt)) → Compared text.now duty.now r

abbrev pub BothDesigns : List ℕ → List ℕ → Type 0
BothDesigns text duty = DesignText text × DesignText duty

-- the texts have the same lines of a kind, in the same order
abbrev pub SameOfKind : ℕ → List ℕ → List ℕ → Type 0
SameOfKind k text duty = of_kind k (fields_by_line text) ≡ of_kind k (fields_by_line duty)

-- the same specification: parameters and rows
abbrev pub SameSpecification : List ℕ → List ℕ → Type 0
SameSpecification text duty = SameOfKind 2 text duty × SameOfKind 4 text duty

-- ---- the statement

pub record Compares : Type 0 where
  pub same : {text duty : List ℕ} {r : ℕ} → Compared text duty r → (r ≡ 0) ↔ (BothDesigns text duty × SameSpecification text duty)
  pub differs : {text duty : List ℕ} {r : ℕ} → Compared text duty r → (r ≡ 1) ↔ (BothDesigns text duty × (SameSpecification text duty → ⊥))
  pub no_design : {text duty : List ℕ} {r : ℕ} → Compared text duty r → (r ≡ 2) ↔ (DesignText text → ⊥)
  pub no_duty : {text duty : List ℕ} {r : ℕ} → Compared text duty r → (r ≡ 3) ↔ (DesignText text × (DesignText duty → ⊥))
  -- nothing is asked, and every call has an answer
  pub asks_nothing : (κs : Lfts 2) (text duty : Bor (List ℕ)) → duty_reads.Pre κs (text, (duty, tt))
  pub answered : (text duty : List ℕ) → (r : ℕ) × Compared text duty r
