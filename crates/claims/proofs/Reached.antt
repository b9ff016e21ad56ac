-- Where a load and advances have come (`reached`): how many states were examined, that the last one is reached once the advances
-- add up to it, and that accepted was answered if the desk is so.
use Prim.Native.Nat.{ℕ, ◌+◌, ◌≤◌, min}
use mathlib.Core.Path.{◌≡◌, refl, sym, ap, ◌∙◌}
use mathlib.Core.Logic.{◌≢◌, ◌⊎◌, inl, inr}
use mathlib.Core.Bool.{Bool, true, false, cond}
use mathlib.Core.List.{List, ◌∷◌, nil≢cons}
use native.Mathlib.Omega.{arith}
use borrow.Author.Tests.{eqb-true, eqb-false}
use lib.Dec.{eqb}
use Rattle.foundation.specs.Walk.{walk}
use Rattle.criteria.specs.Design.{Design, states}
use Rattle.decision.specs.Tests.{holds1}
use Rattle.decision.specs.Verdict.{verdict_of}
use Rattle.reader.specs.Text.{fields_by_line}
use Rattle.loader.specs.Load.{fault_of, held_by, loaded_of}
use Rattle.answers.specs.declared.Phase.{Phase}
use Rattle.answers.specs.declared.Phase.TheVariants as phase
use Rattle.answers.specs.declared.Done.TheVariants as done
use Rattle.answers.specs.declared.Advance.{Advance}
use Rattle.answers.specs.declared.Advance.TheVariants as progress
use Rattle.desk.specs.declared.Desk.{Desk}
use Rattle.desk.specs.declared.AfterLoad.{AfterLoad}
use Rattle.desk.specs.declared.AfterAdvance.{AfterAdvance}
use Rattle.desk.specs.declared.AfterVerdict.{AfterVerdict}
use Rattle.desk.specs.declared.AfterMeasure.{AfterMeasure}
use Rattle.answers.specs.declared.Verdict.{Verdict}
use Rattle.answers.specs.Answers.{count_said, Decided, verdict_numbers}
use Rattle.answers.specs.Answers as answers
use Rattle.criteria.specs.Verdict as criteria
use Rattle.criteria.specs.Verdict.{Acceptance}
use Rattle.stages.specs.Said.{said_verdict}
use Rattle.checker.specs.OneCall.{design_report}
use Rattle.stages.proofs.Examined.{examined}
use Rattle.desk.specs.Desk.{opened, load_empty, load_of, advance_of, tell_of}
use Rattle.design.specs.Lines.{design_text}
use Rattle.stages.specs.Count.{Due}
use Rattle.stages.proofs.Stages.{Stage, fresh, going, accepts, fails, AdvanceDue, advance_fresh, advance_going, some_states}
use Rattle.stages.proofs.Judging.{opened_stage, loaded_free, loaded_fault, decided_answer, decided_report}
use Rattle.claims.specs.Calls.{Called, load, advance, verdict, measure, NoLoad, LastLoad, here, before, AcceptedAs, Walked}
use Rattle.claims.specs.Calls as calls
use Rattle.claims.specs.Outcomes.{Named, acceptance, failure}
use Rattle.claims.specs.Contracted.{Tells, Makes, Calls, new, then_load, then_advance, then_verdict, then_measure, then_drop}
use Rattle.claims.proofs.Lists.{loaded_as, made_by, earlier, apart, same_load, same_advance}
use Rattle.claims.proofs.Kept.{Kept, empty, holds, kept, load_at, advance_at, by_none, tell_desk}

-- after advances by m in all, whose answers counted k
pub record Reached (cs : List Called) (text : List ℕ) (d : Desk) (m k : ℕ) : Type 0 where
  pub last : LastLoad cs text
  pub stage : Stage text d
  pub at : d.phase ≡ phase.Open → m ≡ d.next
  pub counts : k ≡ examined (design_text text) m
  pub rests : d.phase ≢ phase.Open → (j : ℕ) → examined (design_text text) (m + j) ≡ examined (design_text text) m
  pub accepted_in : (how : Acceptance) → d.phase ≡ phase.Accepted how → AcceptedAs how cs text

-- ---- the phases of a stage

opens_not : {p : Phase} {f : _} → p ≡ phase.Failed f → p ≡ phase.Open → ⊥
opens_not a b = let z : ◌≡◌ {A = ℕ} 0 1 = cc in omega arith

pub accepts_not : {p : Phase} {how : Acceptance} → p ≡ phase.Accepted how → p ≡ phase.Open → ⊥
accepts_not a b = let z : ◌≡◌ {A = ℕ} 0 1 = cc in omega arith

-- ---- a load that is done

refused_not : {k : ℕ} → done.TurnedDown k ≡ done.Done → ⊥
refused_not q = let z : ◌≡◌ {A = ℕ} 0 1 = cc in omega arith

load_done : {cs : List Called} {d : Desk} (text : List ℕ) → Kept cs d → (load_of d text).answer ≡ done.Done
    → (fault_of text ≡ 0) × ((load_of d text).desk ≡ opened (held_by (fields_by_line text)))
load_done {d = d} text (empty e) a = go _ refl
  where
    done_empty : (load_empty d (loaded_of text)).answer ≡ done.Done
    done_empty = ap (λ r. r.answer) (sym (load_at d text e)) ∙ a

    go : (free : Bool) → eqb (fault_of text) 0 ≡ free → (fault_of text ≡ 0) × ((load_of d text).desk ≡ opened (held_by (fields_by_line text)))
    go true z = let ok = eqb-true (fault_of text) 0 z in (ok, ap (λ r. r.desk) (load_at d text e ∙ loaded_free d text ok))
    go false z =
        absurd (refused_not (ap (λ r. r.answer) (sym (loaded_fault d text (eqb-false (fault_of text) 0 z))) ∙ done_empty))
load_done {d = d} text (holds l (fresh h e z)) a =
    absurd (refused_not (ap (λ r. r.answer) (sym (load_at d text e)) ∙ a))
load_done {d = d} text (holds l (going h e u v p)) a =
    absurd (refused_not (ap (λ r. r.answer) (sym (load_at d text e)) ∙ a))
load_done {d = d} text (holds l (accepts how h e v)) a =
    absurd (refused_not (ap (λ r. r.answer) (sym (load_at d text e)) ∙ a))
load_done {d = d} text (holds l (fails x h e v)) a =
    absurd (refused_not (ap (λ r. r.answer) (sym (load_at d text e)) ∙ a))

none_yet : (d : Design) → examined d 0 ≡ 0
unfolding examined walk
none_yet d = let e : min 0 (states d) ≡ 0 = omega arith in rw e (either (holds1 d))
  where
    either : (b : Bool) → ◌≡◌ {A = ℕ} (cond b 0 0) 0
    either true = refl
    either false = refl

loaded_reached : (cs : List Called) (text : List ℕ) (d : Desk) → fault_of text ≡ 0 → d ≡ opened (held_by (fields_by_line text)) → Reached (load text done.Done ∷ cs) text d 0 0
loaded_reached cs text d ok e =
    rw e (record {
      last = here;
      stage = opened_stage text ok;
      at = λ _. refl;
      counts = sym (none_yet (design_text text));
      rests = λ o. absurd (o refl);
      accepted_in = λ how o. absurd (accepts_not o refl);
    })

-- ---- a call that leaves the desk

unmoved : {cs : List Called} {text : List ℕ} {d : Desk} {m k : ℕ} (c : Called) (n : ℕ) → NoLoad c → Reached cs text d m k → (n ≡ 0) ⊎ (d.phase ≢ phase.Open)
    → Reached (c ∷ cs) text d (m + n) (k + 0)
unmoved {text = text} {d = d} {m = m} {k = k} c n quiet r (inl z) =
    let e : m + n ≡ m = omega arith in
    let f : k + 0 ≡ k = omega arith in
    rw (e, f) (record { last = before quiet r.last; stage = r.stage; at = r.at; counts = r.counts; rests = r.rests; accepted_in = λ how o. calls.before (r.accepted_in how o) })
unmoved {text = text} {d = d} {m = m} {k = k} c n quiet r (inr o) =
    let f : k + 0 ≡ k = omega arith in
    record {
      last = before quiet r.last;
      stage = r.stage;
      at = λ p. absurd (o p);
      counts = f ∙ r.counts ∙ sym (r.rests o n);
      rests = λ p j. let e : m + n + j ≡ m + (n + j) = omega arith in rw e (r.rests o (n + j) ∙ sym (r.rests o n));
      accepted_in = λ how p. calls.before (r.accepted_in how p);
    }

same : {cs : List Called} {text : List ℕ} {d : Desk} {m k : ℕ} (c : Called) → NoLoad c → Reached cs text d m k → Reached (c ∷ cs) text d m k
same c quiet r =
    record { last = before quiet r.last; stage = r.stage; at = r.at; counts = r.counts; rests = r.rests; accepted_in = λ how o. calls.before (r.accepted_in how o) }

tells : {cs : List Called} {text : List ℕ} (d : Desk) {m k : ℕ} → Reached cs text d m k → Reached (verdict (tell_of d).answer ∷ cs) text (tell_of d).desk m k
unfolding tell_of
tells d r = rw (tell_desk d d.phase) (same _ calls.told r)

-- ---- an advance

moves : {cs : List Called} {text : List ℕ} {d : Desk} {m k n : ℕ} {r : AfterAdvance} → Reached cs text d m k → d.phase ≡ phase.Open → AdvanceDue text d n r
    → Reached (advance n r.answer ∷ cs) text r.desk (m + n) (k + count_said r.answer)
moves {cs} {text} {d} {m} {k} {n} {r} q e a =
    let there : m ≡ d.next = q.at e in
    record {
      last = before calls.advanced q.last;
      stage = a.stage;
      at = λ o. let s = a.opens o in omega arith;
      counts = rw (q.counts, there) a.counts;
      rests = λ o j. rw there (a.rests o j);
      accepted_in = λ how o. let s = a.says_accepted how o in rw s.1 (calls.here q.last);
    }

module _ {cs : List Called} {text : List ℕ} {d : Desk} {m k : ℕ} (n : ℕ) (q : Reached cs text d m k) where
  advance_open_lem : (none : Bool) → eqb n 0 ≡ none → d.phase ≡ phase.Open → (n ≢ 0 → AdvanceDue text d n (advance_of d n))
      → Reached (advance n (advance_of d n).answer ∷ cs) text (advance_of d n).desk (m + n) (k + count_said (advance_of d n).answer)
  advance_open_lem true z e go =
      let none = eqb-true n 0 z in
      rw (advance_at d n e, by_none d n none) (unmoved (advance n (progress.TurnedDown 8)) n calls.advanced q (inl none))
  advance_open_lem false z e go = moves q e (go (eqb-false n 0 z))

  advance_reached : Stage text d → Reached (advance n (advance_of d n).answer ∷ cs) text (advance_of d n).desk (m + n) (k + count_said (advance_of d n).answer)
  advance_reached (fresh h e z) = advance_open_lem _ refl e (λ some. advance_fresh text d n some h e z)
  advance_reached (going h e a b p) = advance_open_lem _ refl e (λ some. advance_going text d n some h e a b p)
  advance_reached (accepts how h e v) =
      rw (advance_at d n e) (unmoved (advance n (progress.TurnedDown 14)) n calls.advanced q (inr (accepts_not e)))
  advance_reached (fails x h e v) =
      rw (advance_at d n e) (unmoved (advance n (progress.TurnedDown 14)) n calls.advanced q (inr (opens_not e)))

  reached_at : d.phase ≡ phase.Open → m ≡ d.next
  reached_at = q.at

  -- a load there is refused
  load_stays : (other : List ℕ) → Stage text d → (load_of d other).desk ≡ d
  load_stays other (fresh h e z) = ap (λ r. r.desk) (load_at d other e)
  load_stays other (going h e a b p) = ap (λ r. r.desk) (load_at d other e)
  load_stays other (accepts how h e v) = ap (λ r. r.desk) (load_at d other e)
  load_stays other (fails x h e v) = ap (λ r. r.desk) (load_at d other e)

  -- what is due
  pub due_at : Stage text d → d.phase ≡ phase.Open → n ≢ 0 → {r : AfterAdvance} → r ≡ advance_of d n
      → Due (design_text text) (verdict_of (design_text text)) m n r.answer r.desk.phase
  due_at (fresh h e z) o some q =
      let there = reached_at o in
      rw (q, there) (advance_fresh text d n some h e z).due
  due_at (going h e a b p) o some q =
      let there = reached_at o in
      rw (q, there) (advance_going text d n some h e a b p).due
  due_at (accepts how h e v) o some q = absurd (accepts_not e o)
  due_at (fails x h e v) o some q = absurd (opens_not e o)

-- ---- a call, by what its contract says of it

after_load : {cs : List Called} {d : Desk} {text t : List ℕ} {r : AfterLoad} → Kept cs d → r ≡ load_of d t → (t ≡ text) × (r.answer ≡ done.Done)
    → Reached (load t r.answer ∷ cs) text r.desk 0 0
after_load {cs} {d} {text} {t} {r = r} c e p =
    let l = load_done t c (ap (λ x. x.answer) (sym e) ∙ p.1) in
    rw (← p.0, p.1) (loaded_reached cs t r.desk l.0 (ap (λ x. x.desk) e ∙ l.1))

after_refusal : {cs : List Called} {d : Desk} {text t : List ℕ} {j m k : ℕ} {r : AfterLoad} → Reached cs text d m k → r ≡ load_of d t
    → r.answer ≡ done.TurnedDown j → j ≢ 0 → Reached (load t r.answer ∷ cs) text r.desk m k
after_refusal {d = d} {t = t} {j = j} {r = r} q e a o =
    let stays : r.desk ≡ d = ap (λ x. x.desk) e ∙ load_stays 0 q t q.stage in
    rw (stays, a) (same (load t (done.TurnedDown j)) (calls.refused o) q)

after_advance : {cs : List Called} {d : Desk} {text : List ℕ} {n i m k : ℕ} {a : Advance} {r : AfterAdvance} → Reached cs text d m k → r ≡ advance_of d n
    → (n ≡ i) × (r.answer ≡ a) → Reached (advance n r.answer ∷ cs) text r.desk (m + i) (k + count_said a)
after_advance {n = n} q e p = rw (← p.0, ← p.1, e) (advance_reached n q q.stage)

after_verdict : {cs : List Called} {d : Desk} {text : List ℕ} {m k : ℕ} {r : AfterVerdict} → Reached cs text d m k → r ≡ tell_of d
    → Reached (verdict r.answer ∷ cs) text r.desk m k
after_verdict {d = d} q e = rw e (tells d q)

after_measure : {cs : List Called} {d : Desk} {text slice after : List ℕ} {m k : ℕ} {r : AfterMeasure} → Reached cs text d m k → Makes d slice r after
    → Reached (measure slice after r.answer ∷ cs) text r.desk m k
after_measure q e = rw (made_by e).0 (same _ calls.measured q)

-- ---- every list

reached_in : {cs ds : List Called} {d : Desk} {text : List ℕ} {m k : ℕ} → Calls cs d → Walked ds text m k → cs ≡ ds → Reached cs text d m k
reached_in (new e) calls.loaded q = absurd (nil≢cons q)
reached_in (new e) (calls.on w) q = absurd (nil≢cons q)
reached_in (new e) (calls.told w) q = absurd (nil≢cons q)
reached_in (new e) (calls.measured w) q = absurd (nil≢cons q)
reached_in (new e) (calls.refused o w) q = absurd (nil≢cons q)
reached_in (then_load c e) calls.loaded q = after_load (kept c) (loaded_as e) (same_load q)
reached_in (then_load c e) (calls.on w) q = absurd (apart q refl)
reached_in (then_load c e) (calls.told w) q = absurd (apart q refl)
reached_in (then_load c e) (calls.measured w) q = absurd (apart q refl)
reached_in (then_load c e) (calls.refused o w) q = after_refusal (reached_in c w (earlier q)) (loaded_as e) (same_load q).1 o
reached_in (then_advance n c e) calls.loaded q = absurd (apart q refl)
reached_in (then_advance n c e) (calls.on w) q = after_advance (reached_in c w (earlier q)) e.0 (same_advance q)
reached_in (then_advance n c e) (calls.told w) q = absurd (apart q refl)
reached_in (then_advance n c e) (calls.measured w) q = absurd (apart q refl)
reached_in (then_advance n c e) (calls.refused o w) q = absurd (apart q refl)
reached_in (then_verdict c e) calls.loaded q = absurd (apart q refl)
reached_in (then_verdict c e) (calls.on w) q = absurd (apart q refl)
reached_in (then_verdict c e) (calls.told w) q = after_verdict (reached_in c w (earlier q)) e.0
reached_in (then_verdict c e) (calls.measured w) q = absurd (apart q refl)
reached_in (then_verdict c e) (calls.refused o w) q = absurd (apart q refl)
reached_in (then_measure c e) calls.loaded q = absurd (apart q refl)
reached_in (then_measure c e) (calls.on w) q = absurd (apart q refl)
reached_in (then_measure c e) (calls.told w) q = absurd (apart q refl)
reached_in (then_measure c e) (calls.measured w) q = after_measure (reached_in c w (earlier q)) e
reached_in (then_measure c e) (calls.refused o w) q = absurd (apart q refl)
reached_in (then_drop c e) calls.loaded q = absurd (apart q refl)
reached_in (then_drop c e) (calls.on w) q = absurd (apart q refl)
reached_in (then_drop c e) (calls.told w) q = absurd (apart q refl)
reached_in (then_drop c e) (calls.measured w) q = absurd (apart q refl)
reached_in (then_drop c e) (calls.refused o w) q = absurd (apart q refl)

pub reached : {cs : List Called} {d : Desk} {text : List ℕ} {m k : ℕ} → Calls cs d → Walked cs text m k → Reached cs text d m k
reached c w = reached_in c w refl

-- once the advances add up to the states, the check is decided
pub decided : {cs : List Called} {text : List ℕ} {d : Desk} {m k : ℕ} → Reached cs text d m k → states (design_text text) ≤ m → d.phase ≢ phase.Open
decided {text = text} {d = d} {m = m} r l o = by_stage r.stage
  where
    by_stage : Stage text d → ⊥
    by_stage (fresh h e z) = let a = r.at e in let s = some_states text d h in omega arith
    by_stage (going h e a b p) = let a = r.at e in omega arith
    by_stage (accepts how h e v) = accepts_not e o
    by_stage (fails x h e v) = opens_not e o

pub ends_decided : {cs : List Called} {text : List ℕ} {d : Desk} {m k : ℕ} → Reached cs text d m k → states (design_text text) ≤ m → Decided d.phase
ends_decided {text = text} {d = d} r l = by_stage r.stage (decided r l)
  where
    by_stage : Stage text d → d.phase ≢ phase.Open → Decided d.phase
    by_stage (fresh h e z) o = absurd (o e)
    by_stage (going h e a b p) o = absurd (o e)
    by_stage (accepts how h e v) o = rw e (answers.accepted how)
    by_stage (fails x h e v) o = rw e (answers.failed _)

-- ---- the verdict of a decided desk

decided_not_open : {p : Phase} → Decided p → p ≢ phase.Open
decided_not_open (answers.accepted how) e = accepts_not refl e
decided_not_open (answers.failed f) e = opens_not refl e

pub tells_verdict : {cs : List Called} {text : List ℕ} {d : Desk} {m k : ℕ} {r : AfterVerdict} → Reached cs text d m k → Decided d.phase → Tells d r
    → (r.answer ≡ said_verdict (verdict_of (design_text text))) × (verdict_numbers r.answer ≡ design_report (verdict_of (design_text text)))
tells_verdict {text = text} {d = d} q o p =
    let same = ap (λ (x : AfterVerdict). x.answer) p.0 in
    (same ∙ decided_answer text d q.stage (decided_not_open o), ap verdict_numbers same ∙ decided_report text d q.stage (decided_not_open o))

named : (v : criteria.Verdict) {a : Verdict} → a ≡ said_verdict v → Named a
named (criteria.accepted how) e = rw e (acceptance how)
named (criteria.failed x) e = rw e (failure _)

pub walked_named : {text : List ℕ} {cs : List Called} {d : Desk} {m k : ℕ} {r : AfterVerdict} → Calls cs d → Walked cs text m k
    → states (design_text text) ≤ m → Tells d r → Named r.answer
walked_named {text = text} c w l p = let q = reached c w in named (verdict_of (design_text text)) (tells_verdict q (ends_decided q l) p).0
