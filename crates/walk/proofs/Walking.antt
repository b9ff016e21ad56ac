-- What the code returns, as specs/Examine and specs/Walk say it; the turns of the walk's loop; and that the examination of a number is
-- that of the state with this number, so that the walk is the walk over the states of the design.
use mathlib.Core.Path.{◌≡◌, refl, sym, ◌∙◌, ap}
use mathlib.Core.Bool.{Bool, true, false, not, cond}
use mathlib.Core.List.{List}
use Prim.Native.Nat.{ℕ, zero, suc, ◌+◌, ◌-◌, ◌≤◌, ◌<◌, min}
use native.Mathlib.Omega.{arith}
use borrow.Author.Tests.{le-leb, lt-leb, leb-true, not-true, not-false}
use lib.Dec.{leb}
use lib.ListN.{length, replicate}
use lib.Seq.{sets}
use Rattle.foundation.specs.First.{Outcome, pass, fail}
use Rattle.foundation.specs.Walk as the_walk
use Rattle.foundation.specs.Walk.{plus}
use Rattle.foundation.proofs.Walk.{walk_goes, walk_stops}
use Rattle.criteria.specs.Design.{Design, states, mapped}
use Rattle.criteria.specs.Failure.{Failure, failure_at, missing}
use Rattle.decision.specs.Tests.{invariant_b, holds10}
use Rattle.decision.specs.Quick.{state_holds}
use Rattle.decision.proofs.Quick.{quick_passes}
use Rattle.decision.proofs.Alike.{failing_alike, tenth_alike}
use Rattle.decision.specs.Examine.{named, state_at, first_failing, examine}
use Rattle.design.specs.Loaded.{sections, design_at, design_in}
use Rattle.design.specs.declared.Counts.{Counts}
use Rattle.design.specs.declared.Shape.{Shape}
use Rattle.layout.specs.Sizes.{counts_fit, Fits, shape_of, state_count_in}
use Rattle.layout.proofs.Sizes.{shape_fits, sections_kept}
use Rattle.steps.specs.Arrays.{padded, state_values, state_in, invariant_in, mapped_in}
use Rattle.steps.proofs.Arrays.{state_is, mapped_is}
use Rattle.steps.proofs.States as held
use Rattle.lowest_failure.specs.Search.{told_place}
use Rattle.verdicts.specs.declared.Place.{Place}
use Rattle.std.specs.Prelude.{Option, Some, None}
use Rattle.plan.specs.Plan.{plan_in}
use Rattle.tenth.specs.Tenth.{tenth_by}
use Rattle.tenth.proofs.Decided.{tenth_held}
use Rattle.state_passes.specs.Passes.{passes_in}
use Rattle.state_passes.proofs.Decided.{quick_held}
use Rattle.walk.specs.Told.{told, told_walked, no_walk, named_by, lacking_at}
use Rattle.walk.specs.Examine.{inside_at, examine_at, examine_in, walk_on}
use Rattle.start.specs.Start.{start_in, start_failure_in}
use Rattle.walk.specs.Walk.{walk_in, states_there, plan_of, walk_by, walked_under, checked_in}
use Rattle.walk.proofs.Told.{walked_so}
use Rattle.verdicts.specs.declared.Outcome.{Outcome as Answer}
use Rattle.verdicts.specs.declared.Outcome.TheVariants.{Pass, Fail}
use Rattle.verdicts.specs.declared.Walked.{Walked as WalkAnswer}

-- ---- one state

pub named_none : (n : ℕ) (r : Option Place) → r ≡ None → told Pass ≡ named_by n r
unfolding named_by
named_none n r h = rw h

pub named_found : (n : ℕ) (r : Option Place) (x : Place) → r ≡ Some x
    → told (Fail (record { criterion = x.criterion; state = n; row = x.row; sum = x.sum })) ≡ named_by n r
unfolding named_by
named_found n r x h = rw h

pub lacks_at : (n : ℕ) → told (Fail (record { criterion = 10; state = n; row = 0; sum = 0 })) ≡ lacking_at n
unfolding lacking_at
lacks_at n = refl

module _ (f s p v : List ℕ) (h : Shape) (k : ℕ) (a : Bool) (es : v ≡ sets (replicate 8 0) 0 (state_values f s h.implementation k)) (ea : a ≡ tenth_by f s h p v) where
  ev : v ≡ state_in f s h.implementation k
  ev = state_is f s h.implementation k v es

  of_state : (o : Outcome Failure) → o ≡ examine_at f s h p k v → o ≡ examine_in f s h p k
  unfolding examine_in
  of_state o eo = eo ∙ ap (examine_at f s h p k) ev

  pub examine_lacks : (o : Answer) → not a ≡ true → told o ≡ lacking_at k → told o ≡ examine_in f s h p k
  unfolding examine_at
  examine_lacks o n eo = of_state (told o) (eo ∙ rw (← ea, not-true a n))

  module _ (n : not a ≡ false) (b : Bool) (eb : b ≡ invariant_in f s h v) where
    pub examine_outside : not b ≡ true → told Pass ≡ examine_in f s h p k
    unfolding examine_at
    examine_outside y = of_state (told Pass) (rw (← ea, not-false a n, ← eb, not-true b y))

    pub examine_within : (o : Answer) → not b ≡ false → told o ≡ inside_at f s h p k v → told o ≡ examine_in f s h p k
    unfolding examine_at
    examine_within o y eo = of_state (told o) (eo ∙ rw (← ea, not-false a n, ← eb, not-false b y))

module _ (f s p v t : List ℕ) (h : Shape) (k : ℕ) (q : Bool) (em : t ≡ sets (replicate 8 0) 0 (mapped (design_at f s h) v)) (eq : q ≡ passes_in f s h p v t) where
  et : t ≡ mapped_in f s h v
  et = mapped_is f s v h t em

  pub inside_passes : q ≡ true → told Pass ≡ inside_at f s h p k v
  unfolding inside_at
  inside_passes z = rw (← et, ← eq, z)

  pub inside_finds : (r : Option Place) (o : Answer) → q ≡ false → told_place r ≡ first_failing (design_at f s h) v → told o ≡ named_by k r → told o ≡ inside_at f s h p k v
  unfolding inside_at named_by
  inside_finds r o z er eo = eo ∙ ap (named k) er ∙ rw (← et, ← eq, z)

-- ---- the loop

module _ (f s p : List ℕ) (h : Shape) (n from : ℕ) where
  unfoldable pub walk_left : ℕ → the_walk.Walked Failure
  walk_left i = plus i (walk_on f s h p (n - i) (from + i))

  pub walk_begin : walk_left 0 ≡ walk_on f s h p n from
  unfolding walk_left
  walk_begin =
      let e : n - 0 ≡ n = omega arith in
      let k : from + 0 ≡ from = omega arith in
      rw (e, k) (λ j. record { outcome = (walk_on f s h p n from).outcome; count = zero_plus (walk_on f s h p n from).count j })
    where
      zero_plus : (m : ℕ) → 0 + m ≡ m
      zero_plus m = omega arith

  pub walk_turn : (i : ℕ) (o : Answer) → i < n → told o ≡ examine_in f s h p (from + i) → o ≡ Pass → walk_left i ≡ walk_on f s h p n from
      → walk_left (i + 1) ≡ walk_on f s h p n from
  unfolding walk_left walk_on
  walk_turn i o l eo y inv = go ∙ inv
    where
      w : the_walk.Walked Failure
      w = walk_on f s h p (n - (i + 1)) (from + (i + 1))

      one : (m : ℕ) → i + 1 + m ≡ i + (1 + m)
      one m = omega arith

      go : walk_left (i + 1) ≡ walk_left i
      go =
          let e : n - i ≡ suc (n - (i + 1)) = omega arith in
          let k : suc (from + i) ≡ from + (i + 1) = omega arith in
          rw (e, walk_goes (λ k. examine_in f s h p k) (n - (i + 1)) (from + i) (sym eo ∙ ap told y), k)
          (λ j. record { outcome = w.outcome; count = one w.count j })

  pub walk_fail : (i : ℕ) (o : Answer) (x : Failure) → i < n → told o ≡ examine_in f s h p (from + i) → o ≡ Fail x → walk_left i ≡ walk_on f s h p n from
      → told_walked (record { outcome = o; count = i + 1 }) ≡ walk_on f s h p n from
  unfolding walk_left walk_on
  walk_fail i o x l eo y inv = go ∙ inv
    where
      go : told_walked (record { outcome = o; count = i + 1 }) ≡ walk_left i
      go =
          let e : n - i ≡ suc (n - (i + 1)) = omega arith in
          rw (e, walk_stops (λ k. examine_in f s h p k) (n - (i + 1)) (from + i) _ (sym eo ∙ ap told y), y)

  pub walk_end : (i : ℕ) → i ≤ n → n ≤ i → walk_left i ≡ walk_on f s h p n from → told_walked (record { outcome = Pass; count = n }) ≡ walk_on f s h p n from
  unfolding walk_left walk_on the_walk.walk
  walk_end i l u inv = go ∙ inv
    where
      all : n ≡ i + 0
      all = omega arith

      go : told_walked (record { outcome = Pass; count = n }) ≡ walk_left i
      go = let e : n - i ≡ 0 = omega arith in rw e (λ j. record { outcome = pass; count = all j })

-- ---- the walk over the states of the design

walk_alike : (g h : ℕ → Outcome Failure) (n i : ℕ) → ((j : ℕ) → i ≤ j → j < i + n → g j ≡ h j) → the_walk.walk g n i ≡ the_walk.walk h n i
unfolding the_walk.walk
walk_alike g h zero i e = refl
walk_alike g h (suc n) i e = rw (e i (omega arith) (omega arith), walk_alike g h n (suc i) (λ j l u. e j (omega arith) (omega arith)))

module _ (f s : List ℕ) (h : Shape) (fits : Fits h) where
  passes_held : (v : List ℕ) → passes_in f s h (plan_in f s h) v (mapped_in f s h v) ≡ state_holds (design_at f s h) v
  unfolding mapped_in
  passes_held v = quick_held f s h fits v

  -- the examination of a number is that of its state
  pub examine_held : (k : ℕ) → k < states (design_at f s h) → examine_in f s h (plan_in f s h) k ≡ examine (design_at f s h) k
  unfolding examine_in examine_at inside_at examine lacking_at
  examine_held k l =
      ap (examine_at f s h (plan_in f s h) k) (held.state_held f s h.implementation fits.implementation k l)
      ∙ rw (tenth_held f s h fits (padded x), tenth_alike (padded x) x (held.same_values x short) d, held.invariant_held f s h x short, passes_held (padded x))
      (ap (λ o. cond (holds10 d x) (cond (invariant_b d x) o pass) (fail (failure_at k missing)))
      (go (state_holds d (padded x)) refl ∙ ap (named k) (failing_alike (padded x) x (held.same_values x short) d)))
    where
      d : Design
      d = design_at f s h

      x : List ℕ
      x = state_at d k

      short : length x ≤ 8
      short = rw (held.state_length f s h.implementation k) fits.implementation.parameters

      -- a state that passes the quick test has no failure
      go : (b : Bool) → state_holds d (padded x) ≡ b → cond b pass (named k (first_failing d (padded x))) ≡ named k (first_failing d (padded x))
      go true y = rw (quick_passes d (padded x) y)
      go false y = refl

-- ---- what is returned

pub fits_of : (c : Counts) (h : Shape) → h ≡ shape_of c → Fits h
fits_of c h eh = rw eh (shape_fits c)

module _ (f s : List ℕ) (c : Counts) (m n from : ℕ) (most : m ≡ min (state_count_in f s c) 65536) where
  -- whether the states are there
  within : counts_fit c ≡ true → from + n ≤ m → from + n ≤ min (states (design_in f s c)) 65536
  unfolding state_count_in
  within e l = let r : m ≡ min (min (states (design_in f s c)) 65537) 65536 = most ∙ rw e in omega arith

  there : counts_fit c ≡ true → from + n ≤ m → states_there f s c n from ≡ true
  there e l = rw e (le-leb (from + n) (min (states (design_in f s c)) 65536) (within e l))

  none_there : counts_fit c ≡ false → m ≡ 0
  unfolding state_count_in
  none_there e = most ∙ rw e

  not_there : (b : Bool) → counts_fit c ≡ b → m < from + n → states_there f s c n from ≡ false
  unfolding state_count_in
  not_there false e l = rw e
  not_there true e l =
      let r : m ≡ min (min (states (design_in f s c)) 65537) 65536 = most ∙ rw e in
      rw e (lt-leb (from + n) (min (states (design_in f s c)) 65536) (omega arith))

  module _ (p : List ℕ) (r : WalkAnswer) where
    pub none_past : m < from → told_walked r ≡ no_walk → r ≡ walked_under f s c p n from
    unfolding walk_by
    none_past l er = walked_so f s c p n from r (er ∙ rw (not_there (counts_fit c) refl (omega arith)))

    pub none_so_many : from ≤ m → m - from < n → told_walked r ≡ no_walk → r ≡ walked_under f s c p n from
    unfolding walk_by
    none_so_many l k er = walked_so f s c p n from r (er ∙ rw (not_there (counts_fit c) refl (omega arith)))

    pub walked : (h : Shape) → from ≤ m → n ≤ m - from → h ≡ shape_of c → told_walked r ≡ walk_on f s h p n from → r ≡ walked_under f s c p n from
    unfolding walk_by walk_on the_walk.walk
    walked h l k eh er = walked_so f s c p n from r (er ∙ ap (λ q. walk_on f s q p n from) eh ∙ go (counts_fit c) refl)
      where
        go : (b : Bool) → counts_fit c ≡ b → walk_on f s (shape_of c) p n from ≡ cond (states_there f s c n from) (walk_on f s (shape_of c) p n from) no_walk
        go false e =
            let z : m ≡ 0 = none_there e in
            let n0 : n ≡ 0 = omega arith in
            rw (e, n0)
        go true e = rw (there e (omega arith))

-- ---- the plan, and that the walk by the plan of the arrays is the walk over the states of the design

pub plan_made : (f s r : List ℕ) (c : Counts) (h : Shape) → h ≡ shape_of c → r ≡ plan_in f s h → r ≡ plan_of f s c
unfolding plan_of
plan_made f s r c h eh er = er ∙ ap (λ q. plan_in f s q) eh

module _ (f s : List ℕ) (c : Counts) (n from : ℕ) where
  pub by_plan : walk_by f s c (plan_of f s c) n from ≡ walk_in f s c n from
  unfolding walk_by walk_in plan_of walk_on
  by_plan = go (counts_fit c) refl
    where
      d : Design
      d = design_in f s c

      h : Shape
      h = sections c

      enough : Fits h → (b : Bool) → leb (from + n) (min (states d) 65536) ≡ b → cond b (walk_on f s h (plan_in f s h) n from) no_walk ≡ cond b (the_walk.walk (examine d) n from) no_walk
      enough fits false l = refl
      enough fits true l =
          let within : from + n ≤ min (states d) 65536 = leb-true (from + n) (min (states d) 65536) l in
          walk_alike (λ j. examine_in f s h (plan_in f s h) j) (examine d) n from (λ j p u. examine_held f s h fits j (omega arith))

      go : (b : Bool) → counts_fit c ≡ b → cond (states_there f s c n from) (walk_on f s (shape_of c) (plan_in f s (shape_of c)) n from) no_walk ≡ walk_in f s c n from
      go false e = rw e
      go true e = rw (sections_kept c e, e) (enough (fits_of c h (sym (sections_kept c e))) _ refl)

-- ---- a whole check

module _ (f s : List ℕ) (c : Counts) (b : Bool) (eb : b ≡ start_in f s c) where
  pub check_start : (x : Failure) → not b ≡ true → x ≡ start_failure_in f s c → Fail x ≡ checked_in f s c
  unfolding checked_in
  check_start x h ex = rw (← eb, not-true b h, ex)

  pub check_states : (p : List ℕ) (n : ℕ) (w : WalkAnswer) → not b ≡ false → p ≡ plan_of f s c → n ≡ state_count_in f s c → w ≡ walked_under f s c p n 0
      → w.outcome ≡ checked_in f s c
  unfolding checked_in
  check_states p n w h ep en ew = rw (← eb, not-false b h, ew, ep, en)
