-- What load, advance, verdict and drop answer has the numbers that specs/Answers gives the call.
use Prim.Native.Nat.{ℕ, ◌+◌, ◌-◌, min}
use mathlib.Core.Path.{◌≡◌, refl, ap, ◌∙◌}
use mathlib.Core.Bool.{Bool, true, false, cond, not, ◌&&◌}
use mathlib.Core.List.{List}
use Rattle.std.specs.Prelude.{Result, Ok, Err}
use Rattle.verdicts.specs.declared.Fault.{Fault}
use Rattle.verdicts.specs.Refusals.{fault_found}
use Rattle.loader.specs.declared.Loaded.{Loaded}
use lib.Dec.{eqb, leb}
use Rattle.layout.specs.Sizes.{state_count_in}
use Rattle.loader.specs.Load.{fault_of, loaded_of}
use Rattle.loader.proofs.Passed.{fault_kept}
use Rattle.start.specs.Start.{start_in, acceptance_in}
use Rattle.walk.specs.Walk.{walked_under}
use Rattle.phases.specs.Phases.{phase_after}
use Rattle.verdicts.specs.declared.Outcome.{Outcome}
use Rattle.verdicts.specs.declared.Outcome.TheVariants.{Pass, Fail}
use Rattle.verdicts.specs.declared.Walked.{Walked}
use Rattle.verdicts.specs.declared.Acceptance.{Acceptance}
use Rattle.answers.specs.declared.Phase.{Phase}
use Rattle.answers.specs.declared.Phase.TheVariants as phase
use Rattle.desk.specs.declared.Desk.{Desk}
use Rattle.desk.specs.declared.AfterLoad.{AfterLoad}
use Rattle.desk.specs.declared.AfterAdvance.{AfterAdvance}
use Rattle.desk.specs.declared.AfterVerdict.{AfterVerdict}
use Rattle.desk.specs.declared.AfterDrop.{AfterDrop}
use Rattle.answers.specs.Answers.{done_number, refusal_number, count_said, verdict_numbers, advance_number, verdict_numbers_by, empty_number, advanced_to}
use Rattle.desk.specs.Answers.{load_number, count_open, count_for, advance_count}
use Rattle.examining.specs.Examined.{ahead}
use Rattle.desk.specs.Desk.{load_empty, load_by, load_of, walked_on, fail_start, examine_next, examine_open, advance_open, advance_by, advance_of, tell_by, tell_of, drop_by, drop_of}

-- ---- load

empty_number_lem : (d : Desk) (text : List ℕ) → done_number (load_empty d (loaded_of text)).answer ≡ fault_of text
empty_number_lem d text = go (loaded_of text) ∙ fault_kept text
  where
    go : (r : Result Loaded Fault) → done_number (load_empty d r).answer ≡ fault_found r
    go (Ok l) = refl
    go (Err f) = refl

load_by_lem : (p : Phase) (d : Desk) (text : List ℕ) → done_number (load_by p d text).answer ≡ load_number p text
load_by_lem phase.Empty d text = empty_number_lem d text
load_by_lem phase.Open d text = refl
load_by_lem (phase.Accepted how) d text = refl
load_by_lem (phase.Failed f) d text = refl

pub load_number_lem : (d : Desk) (text : List ℕ) (r : AfterLoad) → r ≡ load_of d text → done_number r.answer ≡ load_number d.phase text
unfolding load_of
load_number_lem d text r e = ap (λ (x : AfterLoad). done_number x.answer) e ∙ load_by_lem d.phase d text

-- ---- advance

walked_number : (o : Outcome) (b : Bool) (how : Acceptance) (count : ℕ) → refusal_number (advanced_to (phase_after o b how) count) ≡ 0
walked_number (Fail f) b how count = refl
walked_number Pass true how count = refl
walked_number Pass false how count = refl

next_number : (d : Desk) (n : ℕ) → refusal_number (examine_next d n).answer ≡ 0
unfolding examine_next walked_on
next_number d n =
    let total : ℕ = state_count_in d.lines.fields d.lines.starts d.counts in
    let w : Walked = walked_under d.lines.fields d.lines.starts d.counts d.plan (ahead n d.next total) d.next in
    walked_number w.outcome (leb total (d.next + w.count)) (acceptance_in d.lines.fields d.lines.starts d.counts) w.count

start_number : (d : Desk) → refusal_number (fail_start d).answer ≡ 0
unfolding fail_start
start_number d = refl

open_number : (d : Desk) (n : ℕ) → refusal_number (advance_open d n).answer ≡ cond (eqb n 0) 8 0
unfolding advance_open examine_open
open_number d n = go (eqb n 0) refl
  where
    go : (b : Bool) → eqb n 0 ≡ b → refusal_number (advance_open d n).answer ≡ cond (eqb n 0) 8 0
    go true e = rw e
    go false e = rw e (first (eqb d.next 0) (start_in d.lines.fields d.lines.starts d.counts))
      where
        first : (b c : Bool) → refusal_number (cond b (cond c (examine_next d n) (fail_start d)) (examine_next d n)).answer ≡ 0
        first true true = next_number d n
        first true false = start_number d
        first false c = next_number d n

advance_by_lem : (p : Phase) (d : Desk) (n : ℕ) → refusal_number (advance_by p d n).answer ≡ advance_number p n
advance_by_lem phase.Empty d n = refl
advance_by_lem phase.Open d n = open_number d n
advance_by_lem (phase.Accepted how) d n = refl
advance_by_lem (phase.Failed f) d n = refl

pub advance_number_lem : (d : Desk) (n : ℕ) (r : AfterAdvance) → r ≡ advance_of d n → refusal_number r.answer ≡ advance_number d.phase n
unfolding advance_of
advance_number_lem d n r e = ap (λ (x : AfterAdvance). refusal_number x.answer) e ∙ advance_by_lem d.phase d n

-- ---- how many states an advance examines

walked_count : (o : Outcome) (b : Bool) (how : Acceptance) (count : ℕ) → count_said (advanced_to (phase_after o b how) count) ≡ count
walked_count (Fail f) b how count = refl
walked_count Pass true how count = refl
walked_count Pass false how count = refl

next_count : (d : Desk) (n : ℕ)
    → count_said (examine_next d n).answer
    ≡ (walked_under d.lines.fields d.lines.starts d.counts d.plan (min n (state_count_in d.lines.fields d.lines.starts d.counts - d.next)) d.next).count
unfolding examine_next walked_on ahead
next_count d n =
    let total : ℕ = state_count_in d.lines.fields d.lines.starts d.counts in
    let w : Walked = walked_under d.lines.fields d.lines.starts d.counts d.plan (min n (total - d.next)) d.next in
    walked_count w.outcome (leb total (d.next + w.count)) (acceptance_in d.lines.fields d.lines.starts d.counts) w.count

start_count : (d : Desk) → count_said (fail_start d).answer ≡ 0
unfolding fail_start
start_count d = refl

open_count : (d : Desk) (n : ℕ) → count_said (advance_open d n).answer ≡ cond (eqb n 0) 0 (count_open d n)
unfolding advance_open examine_open
open_count d n = go (eqb n 0) refl
  where
    go : (b : Bool) → eqb n 0 ≡ b → count_said (advance_open d n).answer ≡ cond (eqb n 0) 0 (count_open d n)
    go true e = rw e
    go false e = rw e (first (eqb d.next 0) (start_in d.lines.fields d.lines.starts d.counts))
      where
        first : (b c : Bool) → count_said (cond b (cond c (examine_next d n) (fail_start d)) (examine_next d n)).answer
            ≡ cond (b && not c) 0 (walked_under d.lines.fields d.lines.starts d.counts d.plan (min n (state_count_in d.lines.fields d.lines.starts d.counts - d.next)) d.next).count
        first true true = next_count d n
        first true false = start_count d
        first false c = next_count d n

count_by : (p : Phase) (d : Desk) (n : ℕ) → count_said (advance_by p d n).answer ≡ count_for p d n
count_by phase.Empty d n = refl
count_by phase.Open d n = open_count d n
count_by (phase.Accepted how) d n = refl
count_by (phase.Failed f) d n = refl

pub advance_count_lem : (d : Desk) (n : ℕ) (r : AfterAdvance) → r ≡ advance_of d n → count_said r.answer ≡ advance_count d n
unfolding advance_of advance_count
advance_count_lem d n r e = ap (λ (x : AfterAdvance). count_said x.answer) e ∙ count_by d.phase d n

-- ---- verdict

told_by_lem : (p : Phase) (d : Desk) → verdict_numbers (tell_by p d).answer ≡ verdict_numbers_by p
told_by_lem phase.Empty d = refl
told_by_lem phase.Open d = refl
told_by_lem (phase.Accepted how) d = refl
told_by_lem (phase.Failed f) d = refl

pub verdict_numbers_lem : (d : Desk) (r : AfterVerdict) → r ≡ tell_of d → verdict_numbers r.answer ≡ verdict_numbers_by d.phase
unfolding tell_of
verdict_numbers_lem d r e = ap (λ (x : AfterVerdict). verdict_numbers x.answer) e ∙ told_by_lem d.phase d

-- ---- drop

drop_by_lem : (p : Phase) (d : Desk) → done_number (drop_by p d).answer ≡ empty_number p
drop_by_lem phase.Empty d = refl
drop_by_lem phase.Open d = refl
drop_by_lem (phase.Accepted how) d = refl
drop_by_lem (phase.Failed f) d = refl

pub drop_number : (d : Desk) (r : AfterDrop) → r ≡ drop_of d → done_number r.answer ≡ empty_number d.phase
unfolding drop_of
drop_number d r e = ap (λ (x : AfterDrop). done_number x.answer) e ∙ drop_by_lem d.phase d
