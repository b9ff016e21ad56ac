-- Runs over steps by number are runs of marked steps of the design: so what the search wrote is what specs/Answer says.
use mathlib.Core.Path.{◌≡◌, refl, sym, ◌∙◌, ap, subst}
use mathlib.Core.Bool.{Bool, true, false, cond}
use mathlib.Core.List.{List}
use Prim.Native.Nat.{ℕ, suc, ◌≤◌, ◌<◌}
use native.Mathlib.Omega.{arith}
use Rattle.foundation.specs.Reflects.{Reflects}
use Rattle.foundation.proofs.Reflects.{says_yes, says_no}
use Rattle.foundation.specs.Radix.{values_of}
use Rattle.foundation.proofs.Radix.{number_below, values_below, values_of_number, number_of_values}
use Rattle.criteria.specs.Design.{Design, State, InSize, Invariant, InvariantState, sizes, states, state_number}
use Rattle.criteria.specs.Step as design
use Rattle.criteria.specs.Measure.{LongestRun, OnLoop, Measurable}
use Rattle.criteria.proofs.Measure.{marked_inside, run_among}
use Rattle.decision.specs.Tests.{invariant_b}
use Rattle.decision.proofs.Tests.{by_invariant}
use Rattle.design.specs.Loaded.{design_at}
use Rattle.design.specs.declared.Shape.{Shape}
use Rattle.layout.specs.Sizes.{Fits}
use Rattle.steps.specs.Arrays.{padded}
use Rattle.steps.proofs.States as held
use Rattle.marked_edges.specs.Edges.{leads_in, next_in, nowhere, SumsNumbered}
use Rattle.marked_edges.proofs.Steps.{edge_step, step_edge}
use Rattle.longest_runs.specs.Runs as numbers
use Rattle.longest_runs.specs.Runs.{Step, Run, stay, more, LongestIs, Written}
use Rattle.std.specs.Prelude.{Result}
use Rattle.answers.specs.declared.Measured.TheVariants.{Loop}
use Rattle.measure.specs.Answer.{number_at, Made, filled, loop, answer_of}

module _ (f s : List ℕ) (h : Shape) (fits : Fits h) (few : states (design_at f s h) ≤ 65536) (spans : SumsNumbered f s h.implementation) (measurable : Measurable (design_at f s h)) where
  abbrev d : Design
  d = design_at f s h

  abbrev n : ℕ
  n = states d

  abbrev next : ℕ → ℕ → ℕ
  next = next_in f s h

  abbrev num : State → ℕ
  num x = state_number d x

  below : (x : State) → InvariantState d x → num x < n
  below x i = number_below (sizes d.impl) x i.in_size

  -- a run by numbers from the number of x is a run from x
  pub record Leads (x : State) (l t : ℕ) : Type 0 where
    pub end : State
    pub run : design.Run d x l end
    pub inside : InvariantState d end
    pub number : num end ≡ t

  pub run_up : {k t l : ℕ} → Run next n k t l → (x : State) → InvariantState d x → num x ≡ k → Leads x l t
  run_up stay x i e = record { end = x; run = design.none; inside = i; number = e }
  run_up (more {t = u} step rest) x i e =
      let m = edge_step f s h fits few spans measurable x i step.edge u (ap (λ k. next k step.edge) e ∙ step.leads) step.there in
      let r = run_up rest m.to m.inside m.number in
      record { end = r.end; run = design.more m.step r.run; inside = r.inside; number = r.number }

  -- and the other way round
  pub run_down : {x y : State} {l : ℕ} → design.Run d x l y → InvariantState d x → Run next n (num x) (num y) l
  run_down design.none i = stay
  run_down {x = x} (design.more {u = u} t rest) i =
      let j = marked_inside d measurable x u i t in
      let g = step_edge f s h fits few spans measurable x i u t in
      more (record { edge = g.edge; one = g.one; here = below x i; there = below u j; leads = g.leads }) (run_down rest j)

  -- the longest of them
  pub longest_up : (x : State) → InvariantState d x → (l : ℕ) → LongestIs next n (num x) l → LongestRun d x l
  longest_up x i l a =
      let r = run_up a.run x i refl in
      record { end = r.end; run = r.run; none_longer = λ m y run. a.none_longer (num y) m (run_down run i) }

  -- the invariant has a value in every state, so that the test tells whether it holds
  by_holds : (x : State) → InSize d.impl x → Reflects (Invariant d x) (invariant_b d x)
  by_holds x in_size = by_invariant d x (measurable.tenth x in_size).invariant

  -- outside the invariant there is no step
  no_step : (x : State) → InSize d.impl x → (Invariant d x → ⊥) → (t : ℕ) → Step next n (num x) t → ⊥
  unfolding next_in
  no_step x in_size out t step = go (invariant_b d x) refl
    where
      there : (b : Bool) → invariant_b d x ≡ b → next_in f s h (num x) step.edge ≡ cond b (leads_in f s h (padded x) step.edge) nowhere
      there b e = rw (held.array_of f s h fits x in_size, held.invariant_of_lem f s h fits x in_size, e)

      go : (b : Bool) → invariant_b d x ≡ b → ⊥
      go true e = out (says_yes (by_holds x in_size) e)
      go false e = let q = sym (there false e) ∙ step.leads in let l = step.there in omega arith

  pub longest_zero : (x : State) → InSize d.impl x → (Invariant d x → ⊥) → (l : ℕ) → LongestIs next n (num x) l → l ≡ 0
  longest_zero x in_size out l a = go a.run
    where
      go : {t m : ℕ} → Run next n (num x) t m → m ≡ 0
      go stay = refl
      go (more step rest) = absurd (no_step x in_size out _ step)

  -- a loop by numbers is a loop
  pub loop_up : (k : ℕ) → k < n → numbers.OnLoop next n k → (x : State) × (OnLoop d x × (num x ≡ k))
  loop_up k l o = (x, (go (invariant_b d x) refl, is))
    where
      x : State
      x = values_of (sizes d.impl) k

      in_size : InSize d.impl x
      in_size = values_below (sizes d.impl) k l

      is : num x ≡ k
      is = number_of_values (sizes d.impl) k l

      first_of : {t u m : ℕ} → Run next n t u (suc m) → (w : ℕ) × Step next n t w
      first_of (more {t = w} step rest) = (w, step)

      back : (y : State) → InvariantState d y → num y ≡ k → x ≡ y
      back y j e = sym (ap (values_of (sizes d.impl)) e) ∙ values_of_number (sizes d.impl) y j.in_size

      go : (b : Bool) → invariant_b d x ≡ b → OnLoop d x
      go false e =
          let w = first_of o.back in
          absurd (no_step x in_size (says_no (by_holds x in_size) e) w.0 (subst (λ t. Step next n t w.0) (sym is) w.1))
      go true e =
          let i : InvariantState d x = record { in_size = in_size; invariant = says_yes (by_holds x in_size) e } in
          let r = run_up o.back x i is in
          let run : design.Run d x (suc o.less) x = subst (λ y. design.Run d x (suc o.less) y) (sym (back r.end r.inside r.number)) r.run in
          record { before_last = o.less; run = run; among = run_among d measurable x x (suc o.less) i run }

  -- ---- what was written

  pub made_is : (before after : List ℕ) (r : Result (Unit {0}) ℕ) → Written next n before after r → Made d before after (answer_of r)
  made_is before after r (numbers.longest k a) =
      filled measurable k
      (record {
        inside = λ x i. longest_up x i (number_at d after x) (a (num x) (below x i));
        elsewhere = λ x in_size out. longest_zero x in_size out (number_at d after x) (a (num x) (number_below (sizes d.impl) x in_size));
        few = λ x in_size. (a (num x) (number_below (sizes d.impl) x in_size)).few;
      })
  made_is before after r (numbers.loop k kept zero_is l o) =
      let x = loop_up k l o in
      subst (λ t. Made d before after (Loop t)) x.1.1
      (loop x.0 measurable kept (λ y in_size. zero_is (num y) (number_below (sizes d.impl) y in_size)) x.1.0)
