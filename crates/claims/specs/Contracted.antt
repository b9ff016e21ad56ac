-- Calls of the functions, by the functions' own contracts: `Pre` is what a function asks of its arguments, `Post` what it ensures of its
-- arguments, its result and its arguments at exit. So nothing can stand in for the functions. What is lent to be read is a `Bor`, what is
-- lent to be written a `MutBor`; `now` are its bytes, and `κs` are the lifetimes for which it is lent.
use Rattle.std.specs.Prelude.{ℕ, List, [], ◌∷◌}
use Rattle.std.specs.Borrow.{Bor, MutBor}
use contract.Lifetimes.{Lfts}
use Rattle.desk.specs.declared.Desk.{Desk}
use Rattle.desk.specs.declared.AfterLoad.{AfterLoad}
use Rattle.desk.specs.declared.AfterAdvance.{AfterAdvance}
use Rattle.desk.specs.declared.AfterVerdict.{AfterVerdict}
use Rattle.desk.specs.declared.AfterMeasure.{AfterMeasure}
use Rattle.desk.specs.declared.AfterDrop.{AfterDrop}
use Rattle.desk.proofs.Desk.empty.Reads as empty_reads
use Rattle.desk.proofs.Desk.load.Reads as load_reads
use Rattle.desk.proofs.Desk.advance.Reads as advance_reads
use Rattle.desk.proofs.Desk.verdict.Reads as verdict_reads
use Rattle.desk.proofs.Desk.measure.Reads as measure_reads
use Rattle.desk.proofs.Desk.drop.Reads as drop_reads
use Rattle.checker.proofs.check_design.Reads as check_reads
use Rattle.conversion.proofs.mark_design.Reads as mark_reads
use Rattle.conversion.proofs.unmark_design.Reads as unmark_reads
use Rattle.measuring.proofs.measure_design.Reads as measuring_reads
use Rattle.conversion.specs.Result.{Way, there, back}
use Rattle.claims.specs.Calls.{Called, load, advance, verdict, measure, drop}

-- ---- one call

-- a new desk
abbrev pub News : Desk → Type 0
News desk = empty_reads.Post tt tt desk tt

-- a call on this desk, with this argument, gives this answer beside the next desk
pub data Loads : Desk → List ℕ → AfterLoad → Type 0 where
  loads : (κs : Lfts 1) (desk : Desk) (text : Bor (List ℕ)) (r : AfterLoad) → load_reads.Post κs (desk, (text, tt)) r (desk, (text, tt)) → Loads desk text.now r

abbrev pub Advances : Desk → ℕ → AfterAdvance → Type 0
Advances desk n r = advance_reads.Post tt (desk, (n, tt)) r (desk, (n, tt))

abbrev pub Tells : Desk → AfterVerdict → Type 0
Tells desk r = verdict_reads.Post tt (desk, tt) r (desk, tt)

-- of a measure also what the slice holds after the call
pub data Makes : Desk → List ℕ → AfterMeasure → List ℕ → Type 0 where
  makes : (κs : Lfts 1) (desk : Desk) (slice after : MutBor (List ℕ)) (r : AfterMeasure) → measure_reads.Post κs (desk, (slice, tt)) r (desk, (after, tt))
      → Makes desk slice.now r after.now

abbrev pub Drops : Desk → AfterDrop → Type 0
Drops desk r = drop_reads.Post tt (desk, tt) r (desk, tt)

-- a one-call check of this text with this report buffer answers so and leaves the buffer so
pub data Checks : List ℕ → List ℕ → ℕ → List ℕ → Type 0 where
  checks : (κs : Lfts 2) (text : Bor (List ℕ)) (report after : MutBor (List ℕ)) (r : ℕ) → check_reads.Post κs (text, (report, tt)) r (text, (after, tt))
      → Checks text.now report.now r after.now

-- a writer's call, there or back, on this text with this buffer gives this number and this length, and leaves the buffer so; what its place
-- for the number held before does not matter
pub data Writes : Way → List ℕ → List ℕ → ℕ → ℕ → List ℕ → Type 0 where
  marks : (κs : Lfts 3) (text : Bor (List ℕ)) (buffer after : MutBor (List ℕ)) (before number : MutBor ℕ) (r : ℕ)
      → mark_reads.Post κs (text, (buffer, (before, tt))) r (text, (after, (number, tt)))
      → Writes there text.now buffer.now number.now r after.now
  unmarks : (κs : Lfts 3) (text : Bor (List ℕ)) (buffer after : MutBor (List ℕ)) (before number : MutBor ℕ) (r : ℕ)
      → unmark_reads.Post κs (text, (buffer, (before, tt))) r (text, (after, (number, tt)))
      → Writes back text.now buffer.now number.now r after.now

-- a measure for this text in this slice returns this, tells this number, and leaves the slice so; what its place for the number held before
-- does not matter
pub data MakesFor : List ℕ → List ℕ → ℕ → ℕ → List ℕ → Type 0 where
  makes_for : (κs : Lfts 3) (text : Bor (List ℕ)) (slice after : MutBor (List ℕ)) (before number : MutBor ℕ) (r : ℕ)
      → measuring_reads.Post κs (text, (slice, (before, tt))) r (text, (after, (number, tt)))
      → MakesFor text.now slice.now r number.now after.now

-- ---- a list of desk calls

-- after these calls, the latest first, the desk is this
pub data Calls : List Called → Desk → Type 0 where
  -- "It starts from a new desk"
  new : {d : Desk} → News d → Calls [] d
  -- "each call gets the desk that the last one returned, and nothing else changes it in between"
  then_load : {calls : List Called} {d : Desk} {text : List ℕ} {r : AfterLoad} → Calls calls d → Loads d text r → Calls (load text r.answer ∷ calls) r.desk
  then_advance : {calls : List Called} {d : Desk} {r : AfterAdvance} (n : ℕ) → Calls calls d → Advances d n r → Calls (advance n r.answer ∷ calls) r.desk
  then_verdict : {calls : List Called} {d : Desk} {r : AfterVerdict} → Calls calls d → Tells d r → Calls (verdict r.answer ∷ calls) r.desk
  then_measure : {calls : List Called} {d : Desk} {slice after : List ℕ} {r : AfterMeasure} → Calls calls d → Makes d slice r after
      → Calls (measure slice after r.answer ∷ calls) r.desk
  then_drop : {calls : List Called} {d : Desk} {r : AfterDrop} → Calls calls d → Drops d r → Calls (drop r.answer ∷ calls) r.desk

-- ---- nothing is asked, and every call has an answer

-- no entry point has a condition, whatever its arguments are
pub record AsksNothing : Type 0 where
  pub of_empty : empty_reads.Pre tt tt
  pub of_load : (κs : Lfts 1) (desk : Desk) (text : Bor (List ℕ)) → load_reads.Pre κs (desk, (text, tt))
  pub of_advance : (desk : Desk) (n : ℕ) → advance_reads.Pre tt (desk, (n, tt))
  pub of_verdict : (desk : Desk) → verdict_reads.Pre tt (desk, tt)
  pub of_measure : (κs : Lfts 1) (desk : Desk) (slice : MutBor (List ℕ)) → measure_reads.Pre κs (desk, (slice, tt))
  pub of_drop : (desk : Desk) → drop_reads.Pre tt (desk, tt)
  pub of_check : (κs : Lfts 2) (text : Bor (List ℕ)) (report : MutBor (List ℕ)) → check_reads.Pre κs (text, (report, tt))
  pub of_mark : (κs : Lfts 3) (text : Bor (List ℕ)) (buffer : MutBor (List ℕ)) (number : MutBor ℕ) → mark_reads.Pre κs (text, (buffer, (number, tt)))
  pub of_unmark : (κs : Lfts 3) (text : Bor (List ℕ)) (buffer : MutBor (List ℕ)) (number : MutBor ℕ) → unmark_reads.Pre κs (text, (buffer, (number, tt)))
  pub of_measuring : (κs : Lfts 3) (text : Bor (List ℕ)) (slice : MutBor (List ℕ)) (number : MutBor ℕ) → measuring_reads.Pre κs (text, (slice, (number, tt)))

pub record Answered : Type 0 where
  pub new : (desk : Desk) × News desk
  pub load : (desk : Desk) (text : List ℕ) → (r : AfterLoad) × Loads desk text r
  pub advance : (desk : Desk) (n : ℕ) → (r : AfterAdvance) × Advances desk n r
  pub verdict : (desk : Desk) → (r : AfterVerdict) × Tells desk r
  pub measure : (desk : Desk) (slice : List ℕ) → (r : AfterMeasure) × (after : List ℕ) × Makes desk slice r after
  pub drop : (desk : Desk) → (r : AfterDrop) × Drops desk r
  pub check : (text report : List ℕ) → (r : ℕ) × (after : List ℕ) × Checks text report r after
  pub measuring : (text slice : List ℕ) → (r number : ℕ) × (after : List ℕ) × MakesFor text slice r number after
  pub writer : (way : Way) (text buffer : List ℕ) → (number r : ℕ) × (after : List ℕ) × Writes way text buffer number r after
