-- A list of calls taken apart from its latest call on: the desk that a call got, and what an advance answers in a text's check call by
-- call (`load_done`, `next_due`).
use Prim.Native.Nat.{ℕ}
use mathlib.Core.Path.{◌≡◌, refl, sym, ap, ◌∙◌, subst}
use mathlib.Core.Logic.{◌≢◌}
use mathlib.Core.List.{List, [], ◌∷◌, nil≢cons}
use Rattle.criteria.specs.Verdict.{Verdict}
use Rattle.design.specs.Lines.{design_text}
use Rattle.design.specs.Faults.{DesignText}
use Rattle.answers.specs.declared.Phase.TheVariants as phase
use Rattle.answers.specs.declared.Done.{Done}
use Rattle.answers.specs.declared.Done.TheVariants as done
use Rattle.answers.specs.declared.Advance.{Advance}
use Rattle.desk.specs.declared.Desk.{Desk}
use Rattle.desk.specs.declared.AfterLoad.{AfterLoad}
use Rattle.desk.specs.declared.AfterAdvance.{AfterAdvance}
use Rattle.stages.specs.Count.{Due}
use Rattle.claims.specs.Calls.{Called, load, advance, Walked}
use Rattle.claims.specs.Contracted.{News, Loads, Advances, Calls, new, then_load, then_advance, then_verdict, then_measure, then_drop}
use Rattle.claims.specs.Demand2.{Comes}
use Rattle.claims.proofs.Lists.{earlier, apart, same_load, same_advance}
use Rattle.claims.proofs.Outcomes.{opened_by}

-- ---- the latest call

-- an advance: the desk that it got, and what came of it
pub record Advanced (cs : List Called) (n : ℕ) (a : Advance) (e : Desk) : Type 0 where
  pub desk : Desk
  pub result : AfterAdvance
  pub made : Calls cs desk
  pub call : Advances desk n result
  pub answer : a ≡ result.answer
  pub leaves : e ≡ result.desk

pub last_advance : {ds cs : List Called} {n : ℕ} {a : Advance} {e : Desk} → Calls ds e → ds ≡ advance n a ∷ cs → Advanced cs n a e
last_advance (new x) q = absurd (nil≢cons q)
last_advance (then_load c x) q = absurd (apart q refl)
last_advance {n = n} {a = a} (then_advance {d = d} {r = r} i c x) q =
    let p = same_advance q in
    let many : i ≡ n = p.0 in
    let same : a ≡ r.answer = sym p.1 in
    record { desk = d; result = r; made = subst (λ ds. Calls ds d) (earlier q) c; call = subst (λ k. Advances d k r) many x; answer = same; leaves = refl }
last_advance (then_verdict c x) q = absurd (apart q refl)
last_advance (then_measure c x) q = absurd (apart q refl)
last_advance (then_drop c x) q = absurd (apart q refl)

-- a load of a new desk
pub record Loaded (text : List ℕ) (a : Done) (e : Desk) : Type 0 where
  pub desk : Desk
  pub result : AfterLoad
  pub is_new : News desk
  pub call : Loads desk text result
  pub answer : a ≡ result.answer
  pub leaves : e ≡ result.desk

new_desk : {cs : List Called} {d : Desk} → Calls cs d → cs ≡ [] → News d
new_desk (new x) q = x
new_desk (then_load c x) q = absurd (nil≢cons (sym q))
new_desk (then_advance n c x) q = absurd (nil≢cons (sym q))
new_desk (then_verdict c x) q = absurd (nil≢cons (sym q))
new_desk (then_measure c x) q = absurd (nil≢cons (sym q))
new_desk (then_drop c x) q = absurd (nil≢cons (sym q))

pub only_load : {ds : List Called} {text : List ℕ} {a : Done} {e : Desk} → Calls ds e → ds ≡ load text a ∷ [] → Loaded text a e
only_load (new x) q = absurd (nil≢cons q)
only_load {text = text} {a = a} (then_load {d = d} {text = t} {r = r} c x) q =
    let p = same_load q in
    let of-text : t ≡ text = p.0 in
    let same : a ≡ r.answer = sym p.1 in
    record { desk = d; result = r; is_new = new_desk c (earlier q); call = subst (λ u. Loads d u r) of-text x; answer = same; leaves = refl }
only_load (then_advance n c x) q = absurd (apart q refl)
only_load (then_verdict c x) q = absurd (apart q refl)
only_load (then_measure c x) q = absurd (apart q refl)
only_load (then_drop c x) q = absurd (apart q refl)

-- ---- what is due, call by call

module _ (text : List ℕ) (t : DesignText text) where
  -- the load is done and the desk open
  pub load_done : {a : Done} {e : Desk} → Loaded text a e → (a ≡ done.Done) × (e.phase ≡ phase.Open)
  load_done x =
      let o = opened_by t x.call (ap (λ (d : Desk). d.phase) x.is_new) in
      (x.answer ∙ o.answer_is, ap (λ (d : Desk). d.phase) x.leaves ∙ o.opens)

  module _ (v : Verdict) (comes : Comes text v) where
    pub next_due : {cs : List Called} {n m k : ℕ} {a : Advance} {e : Desk} (x : Advanced cs n a e) → Walked cs text m k → x.desk.phase ≡ phase.Open
        → n ≢ 0 → Due (design_text text) v m n a e.phase
    next_due x w o some = rw (x.answer, x.leaves) (comes.advances x.made w o some x.call)
