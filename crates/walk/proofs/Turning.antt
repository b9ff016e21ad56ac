-- What a turn returns and leaves known, and the loop of turns: where every state before a number passes, the walk goes on from there.
use mathlib.Core.Path.{◌≡◌, refl, sym, subst, ap, ◌∙◌}
use mathlib.Core.Bool.{Bool, true, false, not, cond}
use mathlib.Core.List.{List}
use Prim.Native.Nat.{ℕ, suc, ◌+◌, ◌-◌, ◌≤◌, ◌<◌, min}
use native.Mathlib.Omega.{arith}
use native.Mathlib.Decide.{dec_lt}
use borrow.Author.Tests.{eq-eqb, not-true, not-false}
use lib.ListN.{replicate}
use lib.Seq.{sets}
use Rattle.foundation.specs.First.{pass}
use Rattle.foundation.proofs.First.{pass≢fail, FirstAt}
use Rattle.foundation.proofs.Walk.{all_walk, fail_walk}
use Rattle.criteria.specs.Design.{states}
use Rattle.criteria.specs.Failure.{Failure}
use Rattle.decision.specs.Quick.{state_holds}
use Rattle.design.specs.Loaded.{design_at, design_in}
use Rattle.design.specs.declared.Counts.{Counts}
use Rattle.design.specs.declared.Shape.{Shape}
use Rattle.layout.specs.Sizes.{Fits, counts_fit, shape_of, state_count_in}
use Rattle.layout.proofs.Sizes.{sections_kept}
use Rattle.steps.specs.Arrays.{state_values, state_in, invariant_in, mapped_in}
use Rattle.steps.proofs.Arrays.{state_is}
use Rattle.row_plan.specs.RowPlan.{unsure_at}
use Rattle.plan.specs.Plan.{plan_in, sure_in}
use Rattle.plan.proofs.Risks.{sure_at}
use Rattle.tenth.specs.Tenth.{sure_by, tenth_by}
use Rattle.state_passes.proofs.Decided.{quick_held}
use Rattle.recall.specs.Recall.{When, SetsAre, Task, Recalls, Passed, Forgets}
use Rattle.recall.proofs.Turns.{nothing_recalled}
use Rattle.blocks.specs.Blocks.{RuledOut}
use Rattle.walk.specs.Told.{told, told_walked}
use Rattle.walk.specs.Examine.{inside_at, examine_at, examine_in, walk_on}
use Rattle.walk.specs.Turns.{Planned, Ready, Knows, TurnIs}
use Rattle.walk.specs.declared.Turn.{Turn}
use Rattle.verdicts.specs.declared.Outcome.{Outcome as Answer}
use Rattle.verdicts.specs.declared.Outcome.TheVariants.{Pass, Fail}

-- ---- a design in which nothing lacks a value

module _ (f s p : List ℕ) (h : Shape) (plan : Planned f s h p) where
  sure : sure_in f s h ≡ true
  sure = go (sure_in f s h) (sym (sure_at f s h) ∙ ap unsure_at (sym plan.planned) ∙ plan.unsure)
    where
      go : (b : Bool) → ◌≡◌ {A = ℕ} (cond b 0 1) 0 → b ≡ true
      go true e = refl
      go false e = absurd (omega arith)

  tenth_sure : (v : List ℕ) → tenth_by f s h p v ≡ true
  unfolding tenth_by sure_by
  tenth_sure v = rw (eq-eqb (unsure_at p) 0 plan.unsure)

  -- the examination of the state with a number, outside the invariant, and inside where it passes the quick test
  outside : (k : ℕ) → invariant_in f s h (state_in f s h.implementation k) ≡ false → examine_in f s h p k ≡ pass
  unfolding examine_in examine_at
  outside k y = rw (tenth_sure (state_in f s h.implementation k), y)

  inside : Fits h → (v : List ℕ) (k : ℕ) → v ≡ state_in f s h.implementation k → invariant_in f s h v ≡ true → state_holds (design_at f s h) v ≡ true → examine_in f s h p k ≡ pass
  unfolding examine_in examine_at inside_at mapped_in
  inside fits v k ev y z = rw (← ev, tenth_sure v, y, plan.planned, quick_held f s h fits v, z)

-- ---- a turn

module _ (f s p sets' v : List ℕ) (h : Shape) (number : ℕ) (ready : Ready f s h p sets') (es : v ≡ sets (replicate 8 0) 0 (state_values f s h.implementation number)) where
  ev : v ≡ state_in f s h.implementation number
  ev = state_is f s h.implementation number v es

  -- one state that passes
  one_passes : examine_in f s h p number ≡ pass → TurnIs f s h p number (record { outcome = Pass; next = number + 1; vain = false })
  one_passes e = record {
    onward = omega arith;
    passed = λ y k l u. let q : number ≡ k = omega arith in subst (λ j. examine_in f s h p j ≡ pass) q e;
    failed = λ x y. absurd (pass≢fail y);
  }

  pub turn_state : v ≡ state_in f s h.implementation number
  turn_state = ev

  pub turn_alone : (b : Bool) → b ≡ invariant_in f s h v → not b ≡ true → TurnIs f s h p number (record { outcome = Pass; next = number + 1; vain = false })
  turn_alone b eb y = one_passes (outside f s p h ready.plan number (ap (λ z. invariant_in f s h z) (sym ev) ∙ sym eb ∙ not-true b y))

  pub turn_outside : (r : ℕ) (vain : Bool) → number < r → RuledOut f s h number r → TurnIs f s h p number (record { outcome = Pass; next = r; vain = vain })
  turn_outside r vain l out = record { onward = l; passed = λ y k m u. outside f s p h ready.plan k (out.fails k m u); failed = λ x y. absurd (pass≢fail y) }

  examined : (o : Answer) → told o ≡ examine_in f s h p number → TurnIs f s h p number (record { outcome = o; next = number + 1; vain = false })
  examined o e = record {
    onward = omega arith;
    passed = λ y k l u. let q : number ≡ k = omega arith in subst (λ j. examine_in f s h p j ≡ pass) q (sym e ∙ y);
    failed = λ x y. sym e ∙ y;
  }

  module _ (holds : invariant_in f s h v ≡ true) where
    pub turn_task : number < states (design_at f s h) → Task f s h p sets' v
    unfolding invariant_in
    turn_task below = record {
      fits = ready.fits;
      planned = ready.plan.planned;
      sure = sure f s p h ready.plan;
      sets_are = ready.sets_are;
      state = record { number = number; below = below; is = ev };
      holds = holds;
    }

    pub turn_passes : (watch t : List ℕ) (q : Bool) → When q (Passed f s h v watch t) → q ≡ true → TurnIs f s h p number (record { outcome = Pass; next = number + 1; vain = false })
    turn_passes watch t q passes z = one_passes (inside f s p h ready.plan ready.fits v number ev holds (passes.so z).holds)

    searched : (o : Answer) → told o ≡ inside_at f s h p number v → TurnIs f s h p number (record { outcome = o; next = number + 1; vain = false })
    unfolding examine_in examine_at
    searched o eo = examined o (eo ∙ rw (← ev, tenth_sure f s p h ready.plan v, holds))

pub turn_examined : (f s p sets' v : List ℕ) (h : Shape) (number : ℕ) (o : Answer) → told o ≡ inside_at f s h p number v → Ready f s h p sets'
    → v ≡ sets (replicate 8 0) 0 (state_values f s h.implementation number) → invariant_in f s h v ≡ true
    → TurnIs f s h p number (record { outcome = o; next = number + 1; vain = false })
turn_examined f s p sets' v h number o eo ready es holds = searched f s p sets' v h number ready es holds o eo

pub turn_fails : (f s v : List ℕ) (h : Shape) (b : Bool) → b ≡ invariant_in f s h v → not b ≡ true → invariant_in f s h v ≡ false
turn_fails f s v h b eb y = sym eb ∙ not-true b y

pub turn_holds : (f s v : List ℕ) (h : Shape) (b : Bool) → b ≡ invariant_in f s h v → not b ≡ false → invariant_in f s h v ≡ true
turn_holds f s v h b eb y = sym eb ∙ not-false b y

-- ---- what is known

module _ (f s : List ℕ) (h : Shape) (watch t : List ℕ) where
  pub knows_passed : (v : List ℕ) (q : Bool) → When q (Passed f s h v watch t) → q ≡ true → Knows f s h watch t v
  knows_passed v q passes z = record { long = (passes.so z).long; recalls = (passes.so z).recalls }

  pub knows_nothing : (last : List ℕ) → Fits h → Forgets watch → Knows f s h watch t last
  knows_nothing last fits none = record { long = none.long; recalls = nothing_recalled f s h watch t last fits none }

  pub ready_forgets : (p sets' last : List ℕ) → Ready f s h p sets' → Forgets watch → Knows f s h watch t last
  ready_forgets p sets' last ready none = knows_nothing last ready.fits none

  pub knows_recalls : (last : List ℕ) → Knows f s h watch t last → Recalls f s h watch t last
  knows_recalls last k = k.recalls

pub ready_fits : (f s p sets' : List ℕ) (h : Shape) → Ready f s h p sets' → Fits h
ready_fits f s p sets' h ready = ready.fits

pub ready_few : (f s p sets' : List ℕ) (h : Shape) → Ready f s h p sets' → states (design_at f s h) ≤ 65536
ready_few f s p sets' h ready = ready.plan.few

pub made_ready : (f s p sets' : List ℕ) (h : Shape) → Fits h → Planned f s h p → SetsAre (design_at f s h) sets' → Ready f s h p sets'
made_ready f s p sets' h fits plan sets_are = record { fits = fits; plan = plan; sets_are = sets_are }

-- ---- the loop

module _ (f s p : List ℕ) (h : Shape) (n from : ℕ) where
  -- the states before a number passed
  pub record Walks (at : ℕ) : Type 0 where
    pub from_on : from ≤ at
    pub passed : (k : ℕ) → from ≤ k → k < at → examine_in f s h p k ≡ pass

  pub walks_begin : Walks from
  walks_begin = record { from_on = omega arith; passed = λ k l u. absurd (omega arith) }

  module _ (at : ℕ) (r : Turn) (inv : Walks at) (turn : TurnIs f s h p at r) where
    pub walks_on : r.outcome ≡ Pass → Walks r.next
    walks_on y = record { from_on = let u = turn.onward in let w = inv.from_on in omega arith; passed = λ k i u. go k i u (dec_lt k at) }
      where
        go : (k : ℕ) → from ≤ k → k < r.next → Dec (k < at) → examine_in f s h p k ≡ pass
        go k i u (yes z) = inv.passed k i z
        go k i u (no z) = turn.passed (ap told y) k (omega arith) u

    pub walks_fail : at < from + n → (x : Failure) → r.outcome ≡ Fail x → told_walked (record { outcome = r.outcome; count = at - from + 1 }) ≡ walk_on f s h p n from
    unfolding walk_on
    walks_fail l x y =
        let w = inv.from_on in
        let first : FirstAt (λ k. examine_in f s h p k) n from x = record {
          at = at;
          from = w;
          below = l;
          fails = turn.failed x (ap told y);
          before = λ j i u. inv.passed j i u;
        } in
        let e : at - from + 1 ≡ suc at - from = omega arith in
        (λ i. record { outcome = ap told y i; count = e i }) ∙ sym (fail_walk (λ k. examine_in f s h p k) n from x first)

  pub walks_end : (at : ℕ) → from + n ≤ at → Walks at → told_walked (record { outcome = Pass; count = n }) ≡ walk_on f s h p n from
  unfolding walk_on
  walks_end at l inv = sym (all_walk (λ k. examine_in f s h p k) n from (λ j i u. inv.passed j i (omega arith)))

pub turn_onward : (f s p : List ℕ) (h : Shape) (at : ℕ) (r : Turn) → TurnIs f s h p at r → at < r.next
turn_onward f s p h at r turn = turn.onward

-- what numbers fit
pub end_fits : (f s p : List ℕ) (h : Shape) (n from : ℕ) → Planned f s h p → from + n ≤ states (design_at f s h) → from + n ≤ 65536
end_fits f s p h n from plan l = let few = plan.few in omega arith

-- ---- whether it is a long walk by the plan of the arrays

pub long_planned : (f s p : List ℕ) (h : Shape) (u : ℕ) → p ≡ plan_in f s h → states (design_at f s h) ≤ 65536 → u ≡ unsure_at p → u ≡ 0 → Planned f s h p
long_planned f s p h u ep few eu z = record { few = few; planned = ep; unsure = sym eu ∙ z }

pub walk_fits : (f s : List ℕ) (h : Shape) (n from : ℕ) → states (design_at f s h) ≤ 65536 → from + n ≤ states (design_at f s h) → from + n ≤ 65536
walk_fits f s h n from few l = omega arith

module _ (f s : List ℕ) (c : Counts) (h : Shape) (m n from there : ℕ) (most : m ≡ min (state_count_in f s c) 65536) (l : from ≤ m) (k : n ≤ m - from) (long : 256 ≤ n)
    (et : there ≡ state_count_in f s c) (few : there ≤ 65536) (eh : h ≡ shape_of c) where
  counted : (counts_fit c ≡ true) × (there ≡ min (states (design_in f s c)) 65537)
  unfolding state_count_in
  counted = go (counts_fit c) refl
    where
      go : (b : Bool) → counts_fit c ≡ b → (b ≡ true) × (there ≡ min (states (design_in f s c)) 65537)
      go true e = (refl, et ∙ rw e)
      go false e = let z : m ≡ 0 = most ∙ rw e in absurd (omega arith)

  same_states : states (design_at f s h) ≡ states (design_in f s c)
  same_states = ap (λ q. states (design_at f s q)) (eh ∙ sections_kept c counted.0)

  pub long_few : states (design_at f s h) ≤ 65536
  long_few = let e = counted.1 in rw same_states (omega arith)

  pub long_within : from + n ≤ states (design_at f s h)
  long_within = let e = counted.1 in rw same_states (omega arith)

pub pays_asks : (h : Shape) → Fits h → h.implementation.rows.count ≤ 32
pays_asks h fits = fits.implementation.rows
