-- How far the check of a text has come on a desk that holds it (`Stage`), and that an advance leads from stage to stage:
-- what is kept while it is open is that the start and all states so far pass, and what it ends with is the
-- verdict on the text's design.
use Prim.Native.Nat.{ℕ, suc, ◌+◌, ◌-◌, ◌≤◌, ◌<◌, min}
use mathlib.Core.Path.{◌≡◌, refl, sym, ap, ◌∙◌}
use mathlib.Core.Logic.{◌≢◌}
use mathlib.Core.Bool.{Bool, true, false}
use mathlib.Core.List.{List}
use native.Mathlib.Omega.{arith}
use borrow.Author.Tests.{eq-eqb, ne_eqb, leb-true, leb-false, lt-ltb, le-ltb}
use lib.Dec.{leb}
use Rattle.foundation.specs.First.{Outcome, pass, fail}
use Rattle.foundation.specs.Walk.{walk}
use Rattle.foundation.proofs.Walk.{pass_count, all_walk, from_there, walk_over, count_most}
use Rattle.foundation.proofs.Radix.{number_below}
use Rattle.criteria.specs.Design.{Design, sizes, states, initial_state}
use Rattle.criteria.proofs.Parameters.{initial_in_size}
use Rattle.criteria.specs.Failure.{Failure, start_failure}
use Rattle.criteria.specs.Verdict.{Acceptance, Verdict, accepted, failed}
use Rattle.decision.specs.Tests.{holds1}
use Rattle.decision.specs.Examine.{examine}
use Rattle.decision.specs.Verdict.{acceptance_of, verdict_of}
use Rattle.decision.proofs.Progress.{Progress, begins, goes_on, ends_at_start, ends_well, ends_badly, fails_at_lem, fails_later}
use Rattle.design.specs.Lines.{design_text}
use Rattle.layout.specs.Sizes.{initial_number_in}
use Rattle.loader.proofs.Passed.{admitted}
use Rattle.walk.specs.Told.{said}
use Rattle.phases.specs.Phases.{phase_after}
use Rattle.verdicts.specs.declared.Outcome.TheVariants.{Pass}
use Rattle.answers.specs.declared.Phase.{Phase}
use Rattle.answers.specs.declared.Phase.TheVariants as phase
use Rattle.answers.specs.declared.Advance.TheVariants as advance
use Rattle.desk.specs.declared.Desk.{Desk}
use Rattle.desk.specs.declared.AfterAdvance.{AfterAdvance}
use Rattle.answers.specs.Answers.{count_said, Decided}
use Rattle.answers.specs.Answers as answers
use Rattle.stages.specs.Count.{stop_of, decided_by, due_of, Due}
use Rattle.stages.proofs.Examined.{examined}
use Rattle.examining.specs.Examined.{ahead}
use Rattle.desk.specs.Desk.{placed, fail_start, left_at, walked_on, examine_next, examine_open, advance_open, advance_by, advance_of}
use Rattle.stages.proofs.Ready.{Ready, start_is, acceptance_is, total_is, initial_is, walk_is}

pub data Stage (text : List ℕ) (desk : Desk) : Type 0 where
  -- loaded, nothing tried
  fresh : Ready text desk → desk.phase ≡ phase.Open → desk.next ≡ 0 → Stage text desk
  -- the start holds and the states before the next one pass
  going : Ready text desk → desk.phase ≡ phase.Open → 0 < desk.next → desk.next < states (design_text text)
      → Progress (design_text text) desk.next → Stage text desk
  -- decided, and rightly
  accepts : (how : Acceptance) → Ready text desk → desk.phase ≡ phase.Accepted how → verdict_of (design_text text) ≡ accepted how → Stage text desk
  fails : (x : Failure) → Ready text desk → desk.phase ≡ phase.Failed x → verdict_of (design_text text) ≡ failed x → Stage text desk

-- the same arrays
moved : {text : List ℕ} {desk : Desk} (n : ℕ) (p : Phase) → Ready text desk → Ready text (placed desk n p)
moved n p h =
    let t = h.held in
    record { free = h.free; held = record { fields_are = t.fields_are; starts_are = t.starts_are; counts_are = t.counts_are }; plan_is = h.plan_is }

-- answers and phases are told apart
failed_answer : {j k : ℕ} {how : Acceptance} → advance.Failed j ≡ advance.Accepted how k → ⊥
failed_answer q = let z : ◌≡◌ {A = ℕ} 0 1 = cc in omega arith

open_answer : {j k : ℕ} {how : Acceptance} → advance.Open j ≡ advance.Accepted how k → ⊥
open_answer q = let z : ◌≡◌ {A = ℕ} 0 1 = cc in omega arith

failed_phase : {f : Failure} → phase.Failed f ≡ phase.Open → ⊥
failed_phase q = let z : ◌≡◌ {A = ℕ} 0 1 = cc in omega arith

accepted_phase : {how : Acceptance} → phase.Accepted how ≡ phase.Open → ⊥
accepted_phase q = let z : ◌≡◌ {A = ℕ} 0 1 = cc in omega arith

not_accepted : {f : Failure} {how : Acceptance} → phase.Failed f ≡ phase.Accepted how → ⊥
not_accepted q = let z : ◌≡◌ {A = ℕ} 0 1 = cc in omega arith

same_answer : {a b : Acceptance} {j k : ℕ} → advance.Accepted a j ≡ advance.Accepted b k → a ≡ b
same_answer q = cc

same_phase : {a b : Acceptance} → phase.Accepted a ≡ phase.Accepted b → a ≡ b
same_phase q = cc

-- ---- how many are examined

module _ (d : Design) where
  unstarted : (m : ℕ) → holds1 d ≡ false → examined d m ≡ 0
  unfolding examined
  unstarted m e = rw e

  started : (m : ℕ) → holds1 d ≡ true → examined d m ≡ (walk (examine d) (min m (states d)) 0).count
  unfolding examined
  started m e = rw e

  -- the whole walk is walked
  over : (m j : ℕ) → states d ≤ m → examined d (m + j) ≡ examined d m
  unfolding examined
  over m j l = let e : min (m + j) (states d) ≡ min m (states d) = omega arith in rw e

  -- n more, or those that remain
  added : (m n : ℕ) → Progress d m → m < states d → examined d m + (walk (examine d) (min n (states d - m)) m).count ≡ examined d (m + n)
  added m n p l =
      let k = min n (states d - m) in
      let here : min m (states d) ≡ m = omega arith in
      let there : min (m + n) (states d) ≡ m + min n (states d - m) = omega arith in
      let all = all_walk (examine d) m 0 p.passed in
      rw (started m p.start, started (m + n) p.start, here, there, all, from_there (examine d) m (min n (states d - m)) p.passed)

  -- after a failure none
  failed_rests : (m n j : ℕ) (x : Failure) → Progress d m → m < states d → (walk (examine d) (min n (states d - m)) m).outcome ≡ fail x
      → examined d (m + n + j) ≡ examined d (m + n)
  failed_rests m n j x p l e =
      let k : ℕ = m + min n (states d - m) in
      let there : min (m + n) (states d) ≡ k = omega arith in
      let i : ℕ = min (m + n + j) (states d) - k in
      let beyond : min (m + n + j) (states d) ≡ k + i = omega arith in
      let failing : (walk (examine d) k 0).outcome ≡ fail x = ap (λ v. v.outcome) (from_there (examine d) m (min n (states d - m)) p.passed) ∙ e in
      rw (started (m + n + j) p.start, started (m + n) p.start, there, beyond, walk_over (examine d) k i 0 x failing)

-- ---- what is due

module _ (d : Design) (v : Verdict) (m n : ℕ) where
  due_open : m + n < stop_of d v → Due d v m n (advance.Open n) phase.Open
  unfolding due_of
  due_open l = record { answers = rw (lt-ltb (m + n) (stop_of d v) l); stays = λ _. refl; decides = λ u. absurd (omega arith) }

  due_decided : (k : ℕ) (p : Phase) → stop_of d v ≤ m + n → k ≡ stop_of d v - m → Decided p → Due d v m n (decided_by v k) p
  unfolding due_of
  due_decided k p l e o = record { answers = rw (le-ltb (m + n) (stop_of d v) l, e); stays = λ u. absurd (omega arith); decides = λ _. o }

pub stop_failed : (d : Design) (x : Failure) → x.criterion ≢ 1 → stop_of d (failed x) ≡ suc x.state
stop_failed d x o = rw (ne_eqb x.criterion 1 o)

-- what an advance came to
pub record AdvanceDue (text : List ℕ) (desk : Desk) (n : ℕ) (r : AfterAdvance) : Type 0 where
  pub stage : Stage text r.desk
  -- "accepted" is answered only for an accepted design
  pub accepted_is : (how : Acceptance) (k : ℕ) → r.answer ≡ advance.Accepted how k → verdict_of (design_text text) ≡ accepted how
  -- and where the desk says so, this call answered it
  pub says_accepted : (how : Acceptance) → r.desk.phase ≡ phase.Accepted how → (k : ℕ) × (r.answer ≡ advance.Accepted how k)
  -- a walk over all that remain decides
  pub ends : states (design_text text) ≤ desk.next + n → r.desk.phase ≢ phase.Open
  -- one that doesn't examines n
  pub opens : r.desk.phase ≡ phase.Open → r.desk.next ≡ desk.next + n
  -- the count is what the walk adds, and when decided nothing more is added
  pub counts : examined (design_text text) desk.next + count_said r.answer ≡ examined (design_text text) (desk.next + n)
  pub rests : r.desk.phase ≢ phase.Open → (j : ℕ) → examined (design_text text) (desk.next + n + j) ≡ examined (design_text text) (desk.next + n)
  -- the answer and the phase are those that are due
  pub due : Due (design_text text) (verdict_of (design_text text)) desk.next n r.answer r.desk.phase

module _ (text : List ℕ) (desk : Desk) (h : Ready text desk) where
  abbrev d : Design
  d = design_text text

  abbrev m : ℕ
  m = desk.next

  -- the walk of this call
  abbrev ahead_of : ℕ → ℕ
  ahead_of n = min n (states d - m)

  -- the start failed
  start_stage : (n : ℕ) → m ≡ 0 → holds1 d ≡ false → AdvanceDue text desk n (fail_start desk)
  unfolding fail_start
  start_stage n z e =
      let f : Phase = phase.Failed (record { criterion = 1; state = initial_number_in desk.lines.fields desk.lines.starts desk.counts; row = 0; sum = 0 }) in
      record {
        stage = fails (start_failure d) (moved 0 f h) (rw (initial_is text desk h)) (ends_at_start d e);
        accepted_is = λ how k q. absurd (failed_answer q);
        says_accepted = λ how q. absurd (not_accepted q);
        ends = λ _ q. failed_phase q;
        opens = λ q. absurd (failed_phase q);
        counts = rw (unstarted d m e, unstarted d (m + n) e);
        rests = λ _ j. rw (unstarted d (m + n + j) e, unstarted d (m + n) e);
        due = rw (ends_at_start d e) (due_decided d (failed (start_failure d)) m n 0 f (omega arith) (omega arith) (answers.failed _));
      }

  -- the start held, or was tried before: n states, or those that remain
  module _ (n : ℕ) (some : n ≢ 0) (inside : m < states d) (p : Progress d m) where
    k : ℕ
    k = ahead_of n

    sums : examined d m + (walk (examine d) (ahead_of n) m).count ≡ examined d (m + n)
    sums = added d m n p inside

    -- a state failed
    fails_due : (x : Failure) → (walk (examine d) (ahead_of n) m).outcome ≡ fail x
        → Due d (verdict_of d) m n (advance.Failed (walk (examine d) (ahead_of n) m).count) (phase.Failed x)
    fails_due x e =
        let t = fails_at_lem d (admitted text h.free) m (ahead_of n) x (omega arith) e in
        let at = t.0 in
        let most = count_most (examine d) (ahead_of n) m in
        let stop = stop_failed d x t.1 in
        rw (ends_badly d m (ahead_of n) x p (omega arith) e)
        (due_decided d (failed x) m n (walk (examine d) (ahead_of n) m).count (phase.Failed x) (omega arith) (omega arith) (answers.failed _))

    -- all pass, and there are more
    goes_due : ahead_of n ≡ n → m + n < states d → Progress d (m + ahead_of n) → Due d (verdict_of d) m n (advance.Open (ahead_of n)) phase.Open
    goes_due all l q = rw all (due_open d (verdict_of d) m n (before (verdict_of d) refl))
      where
        before : (v : Verdict) → verdict_of d ≡ v → m + n < stop_of d v
        before (accepted how) e = l
        before (failed x) e =
            let t = fails_later d (admitted text h.free) (m + ahead_of n) x q (omega arith) e in
            let later = t.0 in
            let stop = stop_failed d x t.1 in
            omega arith

    walked_by : (o : Outcome Failure) → (walk (examine d) (ahead_of n) m).outcome ≡ o
        → AdvanceDue text desk n (left_at desk (walk (examine d) (ahead_of n) m).count (m + (walk (examine d) (ahead_of n) m).count)
        (phase_after (said o) (leb (states d) (m + (walk (examine d) (ahead_of n) m).count)) (acceptance_of d)))
    walked_by (fail x) e =
        record {
          stage = fails x (moved _ _ h) refl (ends_badly d m (ahead_of n) x p (omega arith) e);
          accepted_is = λ how j q. absurd (failed_answer q);
          says_accepted = λ how q. absurd (not_accepted q);
          ends = λ _ q. failed_phase q;
          opens = λ q. absurd (failed_phase q);
          counts = sums;
          rests = λ _ j. failed_rests d m n j x p (omega arith) e;
          due = fails_due x e;
        }
    walked_by pass e =
        let sum = sums in
        let count : (walk (examine d) (ahead_of n) m).count ≡ ahead_of n = pass_count (examine d) (ahead_of n) m e in
        rw count (passed (leb (states d) (m + ahead_of n)) refl (goes_on d m (ahead_of n) p e) (rw count at sum))
      where
        passed : (done : Bool) → leb (states d) (m + ahead_of n) ≡ done → Progress d (m + ahead_of n) → examined d m + ahead_of n ≡ examined d (m + n)
            → AdvanceDue text desk n (left_at desk (ahead_of n) (m + ahead_of n) (phase_after Pass done (acceptance_of d)))
        passed true l q sum =
            let g = leb-true (states d) (m + ahead_of n) l in
            let all : m + ahead_of n ≡ states d = omega arith in
            let ended : verdict_of d ≡ accepted (acceptance_of d) = ends_well d (rw all at q) in
            record {
              stage = accepts (acceptance_of d) (moved _ _ h) refl ended;
              accepted_is = λ how j r. ended ∙ ap accepted (same_answer r);
              says_accepted = λ how r. (ahead_of n, ap (λ a. advance.Accepted a (ahead_of n)) (same_phase r));
              ends = λ _ r. accepted_phase r;
              opens = λ r. absurd (accepted_phase r);
              counts = sum;
              rests = λ _ j. over d (m + n) j (omega arith);
              due = rw ended (due_decided d (accepted (acceptance_of d)) m n (ahead_of n) (phase.Accepted (acceptance_of d)) (omega arith) (omega arith) (answers.accepted (acceptance_of d)));
            }
        passed false l q sum =
            let g = leb-false (states d) (m + ahead_of n) l in
            record {
              stage = going (moved _ _ h) refl (omega arith) g q;
              accepted_is = λ how j r. absurd (open_answer r);
              says_accepted = λ how r. absurd (accepted_phase (sym r));
              ends = λ b r. absurd (omega arith);
              opens = λ _. omega arith;
              counts = sum;
              rests = λ r. absurd (r refl);
              due = goes_due (omega arith) (omega arith) q;
            }

    examines : AdvanceDue text desk n (examine_next desk n)
    unfolding examine_next walked_on ahead
    examines =
        rw (total_is text desk h, acceptance_is text desk h, walk_is text desk h (ahead_of n) m (omega arith)) (walked_by (walk (examine d) (ahead_of n) m).outcome refl)

-- ---- an advance by one state or more, on a desk that is open

pub some_states : (text : List ℕ) (desk : Desk) → Ready text desk → 0 < states (design_text text)
some_states text desk h =
    let d = design_text text in
    let b = number_below (sizes d.impl) (initial_state d.impl) (initial_in_size d.impl (admitted text h.free).impl_sizes) in
    omega arith

module _ (text : List ℕ) (desk : Desk) (n : ℕ) (some : n ≢ 0) where
  from_start : (b : Bool) → holds1 (design_text text) ≡ b → Ready text desk → desk.next ≡ 0 → AdvanceDue text desk n (advance_open desk n)
  unfolding advance_open examine_open
  from_start true e h z =
      rw (ne_eqb n 0 some, eq-eqb desk.next 0 z, start_is text desk h, e)
      (examines text desk h n some (rw z (some_states text desk h)) (rw z (begins (design_text text) e)))
  from_start false e h z =
      rw (ne_eqb n 0 some, eq-eqb desk.next 0 z, start_is text desk h, e) (start_stage text desk h n z e)

  from_later : Ready text desk → 0 < desk.next → desk.next < states (design_text text) → Progress (design_text text) desk.next → AdvanceDue text desk n (advance_open desk n)
  unfolding advance_open examine_open
  from_later h l u p = rw (ne_eqb n 0 some, ne_eqb desk.next 0 (omega arith)) (examines text desk h n some u p)

  by_phase : {q : Phase} → desk.phase ≡ q → advance_of desk n ≡ advance_by q desk n
  unfolding advance_of
  by_phase e = ap (λ p. advance_by p desk n) e

  pub advance_fresh : Ready text desk → desk.phase ≡ phase.Open → desk.next ≡ 0 → AdvanceDue text desk n (advance_of desk n)
  advance_fresh h e z = rw (by_phase e) (from_start _ refl h z)

  pub advance_going : Ready text desk → desk.phase ≡ phase.Open → 0 < desk.next → desk.next < states (design_text text)
      → Progress (design_text text) desk.next → AdvanceDue text desk n (advance_of desk n)
  advance_going h e l u p = rw (by_phase e) (from_later h l u p)
