-- The desk for C: each call on lent memory is a call of the desk that stands there, with that call's answer, and leaves the desk that it leaves.
-- So calls on one memory, which nothing else writes to in between, are a list of desk calls, and all that is said of these holds of them. Calls
-- are by the functions' own contracts, as in specs/Contracted. It holds: `lent` in proofs/Lent.
use Rattle.std.specs.Prelude.{ℕ, ◌≡◌, List}
use Rattle.std.specs.Borrow.{Bor, MutBor}
use contract.Lifetimes.{Lfts}
use Rattle.answers.specs.Answers.{done_number, verdict_numbers}
use Rattle.desk.specs.declared.Desk.{Desk}
use Rattle.desk.specs.declared.AfterLoad.{AfterLoad}
use Rattle.desk.specs.declared.AfterAdvance.{AfterAdvance}
use Rattle.desk.specs.declared.AfterVerdict.{AfterVerdict}
use Rattle.desk.specs.declared.AfterDrop.{AfterDrop}
use Rattle.desk_numbers.specs.Numbers.{advance_result, advance_told, numbers_told}
use Rattle.lent_desk.specs.Lent.{desk_in}
use Rattle.lent_desk.proofs.new_desk.Reads as new_reads
use Rattle.lent_desk.proofs.load_desk.Reads as load_reads
use Rattle.lent_desk.proofs.advance_desk.Reads as advance_reads
use Rattle.lent_desk.proofs.tell_desk.Reads as tell_reads
use Rattle.lent_desk.proofs.drop_desk.Reads as drop_reads
use Rattle.claims.specs.Contracted.{News, Loads, Advances, Tells, Drops}

-- what is lent: fields, starts and counts of lines, plan, next state, phase
pub record Memory : Type 0 where
  pub fields : MutBor (List ℕ)
  pub starts : MutBor (List ℕ)
  pub counts : MutBor (List ℕ)
  pub plan : MutBor (List ℕ)
  pub next : MutBor ℕ
  pub phase : MutBor (List ℕ)

-- what is lent to be written, lent to be read
abbrev pub read : MutBor (List ℕ) → Bor (List ℕ)
read b = record { ref_ptr = b.ref_ptr; now = b.now }

-- the desk that stands there
abbrev pub desk_of : Memory → Desk
desk_of m = desk_in m.fields.now m.starts.now m.counts.now m.plan.now m.next.now m.phase.now

-- ---- calls: m is the memory before, m' after

abbrev pub NewIn : Memory → Memory → Type 0
NewIn m m' = (κs : Lfts 6) × new_reads.Post κs (m.fields, (m.starts, (m.counts, (m.plan, (m.next, (m.phase, tt)))))) tt
    (m'.fields, (m'.starts, (m'.counts, (m'.plan, (m'.next, (m'.phase, tt))))))

abbrev pub LoadsIn : Memory → Bor (List ℕ) → ℕ → Memory → Type 0
LoadsIn m text r m' = (κs : Lfts 7) × load_reads.Post κs (m.fields, (m.starts, (m.counts, (m.plan, (m.next, (m.phase, (text, tt))))))) r
    (m'.fields, (m'.starts, (m'.counts, (m'.plan, (m'.next, (m'.phase, (text, tt)))))))

abbrev pub AdvancesIn : Memory → ℕ → ℕ → MutBor ℕ → MutBor ℕ → Memory → Type 0
AdvancesIn m n r before number m' =
    (κs : Lfts 7) × advance_reads.Post κs (m.fields, (m.starts, (m.counts, (m.plan, (m.next, (m.phase, (n, (before, tt)))))))) r
    (m'.fields, (m'.starts, (m'.counts, (m'.plan, (m'.next, (m'.phase, (n, (number, tt))))))))

abbrev pub TellsIn : Memory → MutBor (List ℕ) → MutBor (List ℕ) → Type 0
TellsIn m before numbers = (κs : Lfts 2) × tell_reads.Post κs (read m.phase, (before, tt)) tt (read m.phase, (numbers, tt))

abbrev pub DropsIn : Memory → ℕ → Memory → Type 0
DropsIn m r m' = (κs : Lfts 6) × drop_reads.Post κs (m.fields, (m.starts, (m.counts, (m.plan, (m.next, (m.phase, tt)))))) r
    (m'.fields, (m'.starts, (m'.counts, (m'.plan, (m'.next, (m'.phase, tt))))))

-- ---- the statement

pub record Lent : Type 0 where
  -- a new desk
  pub new : (m m' : Memory) → NewIn m m' → News (desk_of m')
  -- a call of the desk that stands there, told as numbers; what it leaves stands there then
  pub load : (m m' : Memory) (text : Bor (List ℕ)) (r : ℕ) → LoadsIn m text r m'
      → (a : AfterLoad) × Loads (desk_of m) text.now a × (r ≡ done_number a.answer) × (desk_of m' ≡ a.desk)
  pub advance : (m m' : Memory) (n r : ℕ) (before number : MutBor ℕ) → AdvancesIn m n r before number m'
      → (a : AfterAdvance) × Advances (desk_of m) n a × (r ≡ advance_result a.answer) × (number.now ≡ advance_told a.answer) × (desk_of m' ≡ a.desk)
  pub verdict : (m : Memory) (before numbers : MutBor (List ℕ)) → TellsIn m before numbers
      → (a : AfterVerdict) × Tells (desk_of m) a × (numbers.now ≡ numbers_told (verdict_numbers a.answer)) × (a.desk ≡ desk_of m)
  pub drop : (m m' : Memory) (r : ℕ) → DropsIn m r m'
      → (a : AfterDrop) × Drops (desk_of m) a × (r ≡ done_number a.answer) × (desk_of m' ≡ a.desk)
  -- nothing is asked of a caller
  pub new_asks : (κs : Lfts 6) (m : Memory) → new_reads.Pre κs (m.fields, (m.starts, (m.counts, (m.plan, (m.next, (m.phase, tt))))))
  pub load_asks : (κs : Lfts 7) (m : Memory) (text : Bor (List ℕ))
      → load_reads.Pre κs (m.fields, (m.starts, (m.counts, (m.plan, (m.next, (m.phase, (text, tt)))))))
  pub advance_asks : (κs : Lfts 7) (m : Memory) (n : ℕ) (number : MutBor ℕ)
      → advance_reads.Pre κs (m.fields, (m.starts, (m.counts, (m.plan, (m.next, (m.phase, (n, (number, tt))))))))
  pub verdict_asks : (κs : Lfts 2) (m : Memory) (numbers : MutBor (List ℕ)) → tell_reads.Pre κs (read m.phase, (numbers, tt))
  pub drop_asks : (κs : Lfts 6) (m : Memory) → drop_reads.Pre κs (m.fields, (m.starts, (m.counts, (m.plan, (m.next, (m.phase, tt))))))
