-- What every list of desk calls keeps: the desk is empty, or it holds the text of the last load that returned 0 and has come to a
-- stage of its check (`kept`). So where an advance answers accepted, the verdict on that text's design is acceptance
-- (`accepted_verdict`).
use Prim.Native.Nat.{ℕ}
use mathlib.Core.Path.{◌≡◌, refl, sym, ap, ◌∙◌}
use mathlib.Core.Logic.{◌≢◌}
use mathlib.Core.Bool.{Bool, true, false}
use mathlib.Core.List.{List, ◌∷◌, nil≢cons}
use native.Mathlib.Omega.{arith}
use borrow.Author.Tests.{eqb-true, eqb-false, eq-eqb}
use lib.Dec.{eqb}
use Rattle.criteria.specs.Verdict.{Acceptance, accepted}
use Rattle.decision.specs.Verdict.{verdict_of}
use Rattle.loader.specs.Load.{fault_of, loaded_of}
use Rattle.answers.specs.declared.Phase.{Phase}
use Rattle.answers.specs.declared.Phase.TheVariants as phase
use Rattle.answers.specs.declared.Done.TheVariants as done
use Rattle.answers.specs.declared.Advance.TheVariants as progress
use Rattle.answers.specs.declared.Measured.{Measured}
use Rattle.desk.specs.declared.Desk.{Desk}
use Rattle.desk.specs.declared.AfterAdvance.{AfterAdvance}
use Rattle.desk.specs.Desk.{load_empty, load_by, load_of, not_advanced, advance_open, advance_by, advance_of, tell_by, tell_of, drop_by, drop_of}
use Rattle.design.specs.Lines.{design_text}
use Rattle.stages.proofs.Stages.{Stage, fresh, going, accepts, fails, AdvanceDue, advance_fresh, advance_going}
use Rattle.stages.proofs.Judging.{opened_stage, loaded_free, loaded_fault}
use Rattle.claims.specs.Calls.{Called, load, advance, verdict, measure, drop, NoLoad, refused, advanced, told, measured, dropped, LastLoad, here, before, AcceptedAs}
use Rattle.claims.specs.Calls as calls
use Rattle.claims.specs.Contracted.{Calls, new, then_load, then_advance, then_verdict, then_measure, then_drop}
use Rattle.claims.proofs.Lists.{loaded_as, made_by, earlier, apart, same_advance}

-- ---- the last load is one

no_done : {call : Called} {text : List ℕ} → NoLoad call → call ≡ load text done.Done → ⊥
no_done (refused o) e = let z : ◌≡◌ {A = ℕ} 0 1 = cc in omega arith
no_done advanced e = let z : ◌≡◌ {A = ℕ} 0 1 = cc in omega arith
no_done told e = let z : ◌≡◌ {A = ℕ} 0 1 = cc in omega arith
no_done measured e = let z : ◌≡◌ {A = ℕ} 0 1 = cc in omega arith
no_done dropped e = let z : ◌≡◌ {A = ℕ} 0 1 = cc in omega arith

last_same : {cs ds : List Called} {t u : List ℕ} → LastLoad cs t → LastLoad ds u → cs ≡ ds → t ≡ u
last_same here here e = cc
last_same {t = t} here (before {call = c} n l) e = let q : c ≡ load t done.Done = cc in absurd (no_done n q)
last_same {u = u} (before {call = c} n l) here e = let q : c ≡ load u done.Done = cc in absurd (no_done n q)
last_same (before {calls = cs} n l) (before {calls = ds} m k) e = let q : cs ≡ ds = cc in last_same l k q

pub last_one : {cs : List Called} {t u : List ℕ} → LastLoad cs t → LastLoad cs u → t ≡ u
last_one l k = last_same l k refl

-- ---- what is kept

pub data Kept (cs : List Called) (d : Desk) : Type 0 where
  empty : d.phase ≡ phase.Empty → Kept cs d
  holds : {text : List ℕ} → LastLoad cs text → Stage text d → Kept cs d

-- any call but a done load keeps the last load
keeps : {cs : List Called} {c : Called} {text : List ℕ} {d : Desk} → NoLoad c → LastLoad cs text → Stage text d → Kept (c ∷ cs) d
keeps n l s = holds (before n l) s

-- ---- load

pub load_at : (d : Desk) (text : List ℕ) {p : Phase} → d.phase ≡ p → load_of d text ≡ load_by p d text
unfolding load_of
load_at d text e = ap (λ p. load_by p d text) e

load_empty_lem : (cs : List Called) (d : Desk) (text : List ℕ) → d.phase ≡ phase.Empty → (free : Bool) → eqb (fault_of text) 0 ≡ free
    → Kept (load text (load_empty d (loaded_of text)).answer ∷ cs) (load_empty d (loaded_of text)).desk
load_empty_lem cs d text e true z = let ok = eqb-true (fault_of text) 0 z in rw (loaded_free d text ok) (holds here (opened_stage text ok))
load_empty_lem cs d text e false z = rw (loaded_fault d text (eqb-false (fault_of text) 0 z)) (empty e)

load_kept : {cs : List Called} {d : Desk} (text : List ℕ) → Kept cs d → Kept (load text (load_of d text).answer ∷ cs) (load_of d text).desk
load_kept {cs} {d} text (empty e) = rw (load_at d text e) (load_empty_lem cs d text e _ refl)
load_kept {d = d} text (holds l (fresh h e z)) = rw (load_at d text e) (keeps (refused (λ z. omega arith)) l (fresh h e z))
load_kept {d = d} text (holds l (going h e a b p)) = rw (load_at d text e) (keeps (refused (λ z. omega arith)) l (going h e a b p))
load_kept {d = d} text (holds l (accepts how h e v)) = rw (load_at d text e) (keeps (refused (λ z. omega arith)) l (accepts how h e v))
load_kept {d = d} text (holds l (fails x h e v)) = rw (load_at d text e) (keeps (refused (λ z. omega arith)) l (fails x h e v))

-- ---- advance

pub advance_at : (d : Desk) (n : ℕ) {p : Phase} → d.phase ≡ p → advance_of d n ≡ advance_by p d n
unfolding advance_of
advance_at d n e = ap (λ p. advance_by p d n) e

pub by_none : (d : Desk) (n : ℕ) → n ≡ 0 → advance_open d n ≡ not_advanced 8 d
unfolding advance_open
by_none d n z = rw (eq-eqb n 0 z)

refused_none : {k j : ℕ} {how : Acceptance} → progress.TurnedDown k ≡ progress.Accepted how j → ⊥
refused_none e = let z : ◌≡◌ {A = ℕ} 0 1 = cc in omega arith

-- what an advance leaves, and that accepted is answered only for an accepted design
pub record Advanced (text : List ℕ) (r : AfterAdvance) : Type 0 where
  pub stage : Stage text r.desk
  pub accepted_is : (how : Acceptance) (k : ℕ) → r.answer ≡ progress.Accepted how k → verdict_of (design_text text) ≡ accepted how

stays : (text : List ℕ) (d : Desk) (k : ℕ) → Stage text d → Advanced text (not_advanced k d)
stays text d k s = record { stage = s; accepted_is = λ how j e. absurd (refused_none e) }

goes : {text : List ℕ} {d : Desk} {n : ℕ} {r : AfterAdvance} → AdvanceDue text d n r → Advanced text r
goes a = record { stage = a.stage; accepted_is = a.accepted_is }

open_by : (text : List ℕ) (d : Desk) (n : ℕ) (none : Bool) → eqb n 0 ≡ none → d.phase ≡ phase.Open → Stage text d
    → (n ≢ 0 → AdvanceDue text d n (advance_of d n)) → Advanced text (advance_of d n)
open_by text d n true z e s go = rw (advance_at d n e, by_none d n (eqb-true n 0 z)) (stays text d 8 s)
open_by text d n false z e s go = goes (go (eqb-false n 0 z))

pub advance_stage : (text : List ℕ) (d : Desk) (n : ℕ) → Stage text d → Advanced text (advance_of d n)
advance_stage text d n (fresh h e z) = open_by text d n _ refl e (fresh h e z) (λ some. advance_fresh text d n some h e z)
advance_stage text d n (going h e a b p) = open_by text d n _ refl e (going h e a b p) (λ some. advance_going text d n some h e a b p)
advance_stage text d n (accepts how h e v) = rw (advance_at d n e) (stays text d 14 (accepts how h e v))
advance_stage text d n (fails x h e v) = rw (advance_at d n e) (stays text d 14 (fails x h e v))

advance_kept : {cs : List Called} {d : Desk} (n : ℕ) → Kept cs d → Kept (advance n (advance_of d n).answer ∷ cs) (advance_of d n).desk
advance_kept {d = d} n (empty e) = rw (advance_at d n e) (empty e)
advance_kept {d = d} n (holds {text = text} l s) = keeps advanced l (advance_stage text d n s).stage

-- ---- verdict, measure and drop

pub tell_desk : (d : Desk) (p : Phase) → (tell_by p d).desk ≡ d
tell_desk d phase.Empty = refl
tell_desk d phase.Open = refl
tell_desk d (phase.Accepted how) = refl
tell_desk d (phase.Failed f) = refl

verdict_kept : {cs : List Called} {d : Desk} → Kept cs d → Kept (verdict (tell_of d).answer ∷ cs) (tell_of d).desk
unfolding tell_of
verdict_kept {d = d} (empty e) = rw (tell_desk d d.phase) (empty e)
verdict_kept {d = d} (holds l s) = rw (tell_desk d d.phase) (keeps told l s)

measure_kept : {cs : List Called} {d : Desk} {slice after : List ℕ} {a : Measured} → Kept cs d → Kept (measure slice after a ∷ cs) d
measure_kept (empty e) = empty e
measure_kept (holds l s) = keeps measured l s

drop_empty : (d : Desk) (p : Phase) → d.phase ≡ p → (drop_by p d).desk.phase ≡ phase.Empty
drop_empty d phase.Empty e = e
drop_empty d phase.Open e = refl
drop_empty d (phase.Accepted how) e = refl
drop_empty d (phase.Failed f) e = refl

drop_kept : {cs : List Called} (d : Desk) → Kept (drop (drop_of d).answer ∷ cs) (drop_of d).desk
unfolding drop_of
drop_kept d = empty (drop_empty d d.phase refl)

-- ---- every list

pub kept : {cs : List Called} {d : Desk} → Calls cs d → Kept cs d
kept (new e) = empty (ap (λ x. x.phase) e)
kept (then_load {text = text} c e) = rw (loaded_as e) (load_kept text (kept c))
kept (then_advance n c e) = rw e.0 (advance_kept n (kept c))
kept (then_verdict c e) = rw e.0 (verdict_kept (kept c))
kept (then_measure c e) = rw (made_by e).0 (measure_kept (kept c))
kept (then_drop {d = d} c e) = rw e.0 (drop_kept d)

-- ---- a text accepted in a list

-- the text was loaded without fault, and the verdict on its design is acceptance, in this way
pub record Accepts (how : Acceptance) (text : List ℕ) : Type 0 where
  pub free : fault_of text ≡ 0
  pub verdict_is : verdict_of (design_text text) ≡ accepted how

free_of : {text : List ℕ} {d : Desk} → Stage text d → fault_of text ≡ 0
free_of (fresh h e z) = h.free
free_of (going h e a b p) = h.free
free_of (accepts how h e v) = h.free
free_of (fails x h e v) = h.free

accepted_at : {cs : List Called} {d : Desk} {text : List ℕ} {how : Acceptance} (n k : ℕ) → Kept cs d → LastLoad cs text → (advance_of d n).answer ≡ progress.Accepted how k
    → Accepts how text
accepted_at {d = d} n k (empty e) l a = absurd (refused_none (sym (ap (λ r. r.answer) (advance_at d n e)) ∙ a))
accepted_at {d = d} {how = how} n k (holds {text = t} m s) l a =
    rw (last_one l m) (record { free = free_of s; verdict_is = (advance_stage t d n s).accepted_is how k a })

accepted_in : {cs ds : List Called} {d : Desk} {text : List ℕ} {how : Acceptance} → Calls cs d → AcceptedAs how ds text → cs ≡ ds → Accepts how text
accepted_in (new e) (calls.here l) q = absurd (nil≢cons q)
accepted_in (new e) (calls.before a) q = absurd (nil≢cons q)
accepted_in (then_load c e) (calls.here l) q = absurd (apart q refl)
accepted_in (then_load c e) (calls.before a) q = accepted_in c a (earlier q)
accepted_in {how = how} (then_advance {r = r} n c e) (calls.here {n = m} {k = k} l) q =
    let answer : r.answer ≡ progress.Accepted how k = (same_advance q).1 in
    accepted_at n k (kept c) (rw (earlier q) l) (sym (ap (λ x. x.answer) e.0) ∙ answer)
accepted_in (then_advance n c e) (calls.before a) q = accepted_in c a (earlier q)
accepted_in (then_verdict c e) (calls.here l) q = absurd (apart q refl)
accepted_in (then_verdict c e) (calls.before a) q = accepted_in c a (earlier q)
accepted_in (then_measure c e) (calls.here l) q = absurd (apart q refl)
accepted_in (then_measure c e) (calls.before a) q = accepted_in c a (earlier q)
accepted_in (then_drop c e) (calls.here l) q = absurd (apart q refl)
accepted_in (then_drop c e) (calls.before a) q = accepted_in c a (earlier q)

pub accepted_verdict : {cs : List Called} {d : Desk} {text : List ℕ} {how : Acceptance} → Calls cs d → AcceptedAs how cs text → Accepts how text
accepted_verdict c a = accepted_in c a refl
