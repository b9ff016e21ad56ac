-- A design text that meets every criterion is accepted both ways: by every check and every list of calls that goes to the end, and there
-- are such.
use Prim.Native.Nat.{ℕ, ◌+◌, ◌≤◌}
use mathlib.Core.Path.{◌≡◌, refl, sym, ap, ◌∙◌, subst}
use mathlib.Core.List.{List, [], ◌∷◌}
use native.Mathlib.Omega.{arith}
use lib.ListN.{length}
use Rattle.foundation.specs.Walk.{total}
use Rattle.criteria.specs.Design.{states}
use Rattle.criteria.specs.Criteria.{Meets}
use Rattle.verdicts.specs.Report.{accepted_number}
use Rattle.criteria.specs.Verdict.{Acceptance, accepted}
use Rattle.decision.specs.Verdict.{verdict_of}
use Rattle.decision.proofs.Demand2.{demand2, same_way}
use Rattle.design.specs.Lines.{design_text}
use Rattle.design.specs.Faults.{DesignText}
use Rattle.loader.specs.Load.{fault_of}
use Rattle.loader.proofs.Lowest.{free_exactly}
use Rattle.loader.proofs.Passed.{admitted}
use Rattle.answers.specs.declared.Phase.TheVariants as phase
use Rattle.answers.specs.declared.Done.TheVariants as done
use Rattle.desk.specs.declared.Desk.{Desk}
use Rattle.desk.specs.declared.AfterLoad.{AfterLoad}
use Rattle.checker.specs.OneCall.{design_report}
use Rattle.stages.proofs.Stages.{Stage, fresh, going, accepts, fails}
use Rattle.stages.proofs.Judging.{loaded_free}
use Rattle.claims.specs.Calls.{Called, load, advance, AcceptedAs, Walked, LoadThen}
use Rattle.claims.specs.Calls as calls
use Rattle.claims.specs.Contracted.{News, Loads, Checks, Calls, new, then_load, then_advance}
use Rattle.claims.specs.Demand3.{AcceptedBy, Among}
use Rattle.claims.proofs.Lists.{loaded_as, answered, answered_all}
use Rattle.claims.proofs.Kept.{load_at}
use Rattle.claims.proofs.OneCall.{long_answer, judged_free}
use Rattle.claims.proofs.Reached.{Reached, reached, decided}

module _ (text : List ℕ) (t : DesignText text) where
  free : fault_of text ≡ 0
  free = (free_exactly text).1 t

  -- a load on a new desk is done
  load_new : {d : Desk} {r : AfterLoad} → News d → Loads d text r → r.answer ≡ done.Done
  load_new {d} n l = ap (λ r. r.answer) (loaded_as l ∙ load_at d text (ap (λ x. x.phase) n) ∙ loaded_free d text free)

  -- ---- calls there are: a load, and advances by these numbers

  pub record There (ns : List ℕ) : Type 0 where
    pub calls_made : List Called
    pub desk : Desk
    pub made : Calls calls_made desk
    pub is : LoadThen text ns calls_made

  loaded_there : There []
  loaded_there =
      let n = answered_all.new in
      let r = answered_all.load n.0 text in
      let c = then_load (new n.1) r.1 in
      record { calls_made = load text done.Done ∷ []; desk = r.0.desk; made = rw (load_new n.1 r.1) at c; is = calls.loaded }

  pub there : (ns : List ℕ) → There ns
  there [] = loaded_there
  there (n ∷ ns) =
      let before = there ns in
      let a = answered_all.advance before.desk n in
      record { calls_made = advance n a.0.answer ∷ before.calls_made; desk = a.0.desk; made = then_advance n before.made a.1; is = calls.on before.is }

  -- such a list walks over as many states as the numbers add up to
  pub record Walks (calls_made : List Called) (ns : List ℕ) : Type 0 where
    pub states_in : ℕ
    pub counted : ℕ
    pub walked : Walked calls_made text states_in counted
    pub adds_up : states_in ≡ total ns

  pub walks : {cs : List Called} {ns : List ℕ} → LoadThen text ns cs → Walks cs ns
  walks calls.loaded = record { states_in = 0; counted = 0; walked = calls.loaded; adds_up = refl }
  walks (calls.on {ns = ns} {n = n} l) =
      let w = walks l in
      let sum = w.adds_up in
      record { states_in = w.states_in + n; counted = _; walked = calls.on w.walked; adds_up = omega arith }

  -- ---- of a design that meets the criteria

  module _ (m : Meets (design_text text)) where
    how : Acceptance
    how = ((demand2 (design_text text) (admitted text free)).accepts.1 m).0

    passes : verdict_of (design_text text) ≡ accepted how
    unfolding how
    passes = ((demand2 (design_text text) (admitted text free)).accepts.1 m).1

    every_check : {report after : List ℕ} {r : ℕ} → Checks text report r after → 31 ≤ length report → r ≡ accepted_number how
    every_check {report} c l = answered c ∙ long_answer text report l ∙ ap (λ r. r.verdict) (judged_free text free) ∙ ap (λ v. (design_report v).verdict) passes

    a_check : (report : List ℕ) → 31 ≤ length report → (after : List ℕ) × Checks text report (accepted_number how) after
    a_check report l =
        let a = answered_all.check text report in
        let c = a.2 in
        (a.1, rw (every_check c l) at c)

    every_list : {cs : List Called} {d : Desk} {n k : ℕ} → Calls cs d → Walked cs text n k → states (design_text text) ≤ n → AcceptedAs how cs text
    every_list {cs} {d} c w l = let r = reached c w in by_stage r r.stage (decided r l)
      where
        by_stage : {n k : ℕ} → Reached cs text d n k → Stage text d → (d.phase ≡ phase.Open → ⊥) → AcceptedAs how cs text
        by_stage r (fresh h e z) o = absurd (o e)
        by_stage r (going h e a b p) o = absurd (o e)
        by_stage r (accepts a h e v) o = subst (λ w. AcceptedAs w cs text) (same_way (sym v ∙ passes)) (r.accepted_in a e)
        by_stage r (fails x h e v) o = let q = sym passes ∙ v in let z : ◌≡◌ {A = ℕ} 0 1 = cc in absurd (omega arith)

    a_list : (ns : List ℕ) → states (design_text text) ≤ total ns → AcceptedBy how text ns
    a_list ns l =
        let c = there ns in
        let w = walks c.is in
        let sum = w.adds_up in
        record { calls = c.calls_made; desk = c.desk; made = c.made; is = c.is; accepted = every_list c.made w.walked (omega arith) }

    pub among : Among text
    among = record { how = how; check = a_check; every_check = every_check; list = a_list; every_list = every_list }
