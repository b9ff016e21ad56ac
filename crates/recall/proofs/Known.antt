-- What a look at a row shows, and what is known from it: so long as nothing that it watches differs, it is as it was seen.
use mathlib.Core.Path.{◌≡◌, refl, sym, subst, ap, ◌∙◌}
use mathlib.Core.Bool.{Bool, true, false, not, ◌&&◌, cond, false≢true, and-true}
use mathlib.Core.List.{List}
use Prim.Native.Nat.{ℕ, ◌+◌, ◌-◌, ◌<◌}
use native.Mathlib.Omega.{arith}
use borrow.Author.Tests.{not-true}
use lib.ListN.{length, get_or, drop}
use Rattle.foundation.specs.First.{all_in_range}
use Rattle.foundation.specs.Radix.{below_b}
use Rattle.foundation.specs.Reflects.{◌⇒◌}
use Rattle.foundation.proofs.All.{all_in, all_yes}
use Rattle.terms.specs.Tree.{eval_f}
use Rattle.terms.specs.Read.{read_f}
use Rattle.terms.proofs.And.{and_left}
use Rattle.sum_free.specs.SumFree.{sum_free_f}
use Rattle.sum_free.proofs.SumFree.{same_f}
use Rattle.criteria.specs.Design.{Design, Row, sizes, mapped}
use Rattle.criteria.specs.Rows.{row_at, marked_test}
use Rattle.decision.specs.Tests.{enabled_b, partner}
use Rattle.decision.specs.Quick.{row_holds}
use Rattle.design.specs.Loaded.{design_at}
use Rattle.design.specs.declared.Shape.{Shape}
use Rattle.steps.specs.Arrays.{padded, mapped_in, measure_in}
use Rattle.steps.proofs.States.{rows_count}
use Rattle.conjuncts.specs.Conjuncts.{front_of, guard_in}
use Rattle.conjuncts.specs.declared.Guarded.{Guarded}
use Rattle.row_plan.specs.RowPlan.{row_plan_at, risk_at}
use Rattle.plan.specs.Plan.{row_plan_of}
use Rattle.plan.proofs.Held.{row_as_is, row_line_lem, row_by_lem, row_is}
use Rattle.plan.proofs.Planned.{impl_row_plan}
use Rattle.state_passes.specs.Passes.{seen, row_in, impl_between, reply_in, spec_between}
use Rattle.std.specs.Prelude.{Some, is_some, unwrap_or}
use Rattle.state_passes.proofs.Seeing.{seen_holds, seen_quiet}
use Rattle.state_passes.proofs.Decided.{on_guarded, row_seen, row_replied}
use Rattle.watched.specs.Watched.{all_of, map_reads, enabling, watched, reply_watched}
use Rattle.recall.specs.Recall.{Task, Known, Replied, RowIs, MappedIs, idle_in, seen_in, look_inside, loud_of}
use Rattle.recall.specs.declared.Look.{Look}
use Rattle.recall.proofs.States as held

module _ (f s : List ℕ) (h : Shape) (p sets v t : List ℕ) (task : Task f s h p sets v) (et : t ≡ mapped_in f s h v) (i : ℕ) (l : i < h.implementation.rows.count) where
  abbrev d : Design
  d = design_at f s h

  abbrev row : Row
  row = row_at d.impl.rows (i + 1)

  abbrev line : ℕ
  line = get_or s (h.implementation.rows.first + i) 0

  is_row : row ≡ row_as_is f s h.implementation i
  is_row = row_is f s h.implementation i l

  below : i < 32
  below = let few = task.fits.implementation.rows in omega arith

  listed : i < length d.impl.rows
  listed = rw (rows_count f s h.implementation) l

  -- ---- a row that is not enabled

  abbrev front : Guarded
  front = guard_in f v 0 (front_of f (line + 3) 32) (line + 3) 32

  abbrev rest : Bool
  rest = eval_f (read_f front.depth (drop front.at f)).tree v 0

  off_always : enabled_b row v 0 ≡ false → sum_free_f row.condition ≡ true → (e : ℕ) → enabled_b row v e ≡ false
  off_always off free e = same_f row.condition v e 0 free ∙ off

  by_front : (e : ℕ) → front.holds ≡ false → enabled_b row v e ≡ false
  by_front e y = ap (λ (r : Row). enabled_b r v e) is_row ∙ on_guarded f s h v t line v h.implementation.parameters.count e ∙ rw y

  by_rest : front.holds ≡ true → rest ≡ false → enabled_b row v 0 ≡ false
  by_rest y z = ap (λ (r : Row). enabled_b r v 0) is_row ∙ on_guarded f s h v t line v h.implementation.parameters.count 0 ∙ rw (y, z)

  pub idle_means : idle_in f s h p i v ≡ true → (e : ℕ) → enabled_b row v e ≡ false
  unfolding idle_in row_plan_of
  idle_means y e = go front.holds refl (sym opened ∙ y)
    where
      opened : idle_in f s h p i v ≡ cond front.holds (cond (sum_free_f (row_as_is f s h.implementation i).condition) (not rest) false) true
      opened = rw (task.planned, impl_row_plan f s h task.fits i below l, row_by_lem f s h.implementation i, row_line_lem f s h.implementation i)

      go : (b : Bool) → front.holds ≡ b → cond b (cond (sum_free_f (row_as_is f s h.implementation i).condition) (not rest) false) true ≡ true → enabled_b row v e ≡ false
      go false q z = by_front e q
      go true q z = at (sum_free_f (row_as_is f s h.implementation i).condition) refl z
        where
          at : (b : Bool) → sum_free_f (row_as_is f s h.implementation i).condition ≡ b → cond b (not rest) false ≡ true → enabled_b row v e ≡ false
          at true w u = off_always (by_rest q (not-true rest u)) (ap (λ (r : Row). sum_free_f r.condition) is_row ∙ w) e
          at false w u = absurd (false≢true u)

  -- ---- a look

  abbrev keeps_b : Bool
  keeps_b = all_in_range (λ e. row_holds d v (i + 1) row e) row.span 0

  abbrev quiet_b : Bool
  quiet_b = all_in_range (λ e. not (marked_test d v (i + 1) row e)) row.span 0

  one : i + 1 - i ≡ 1
  one = omega arith

  row_sight : row_in f s h (i + 1) (row_plan_at p i) (risk_at p 64) v t (measure_in f s h v) ≡ seen keeps_b quiet_b
  unfolding mapped_in
  row_sight =
      rw (et, task.planned) (row_seen f s h task.fits v i l)
      ∙ ap (λ (r : Row). seen (all_in_range (λ e. row_holds d v (i + 1) r e) r.span 0) (all_in_range (λ e. not (marked_test d v (i + 1) r e)) r.span 0)) (sym is_row)

  -- what is seen of one row is what is seen of it
  sight : seen_in f s h p i v t ≡ seen (keeps_b && true) ((keeps_b && quiet_b) && true)
  unfolding impl_between all_in_range
  sight = rw (one, row_sight, seen_holds keeps_b quiet_b, seen_quiet keeps_b quiet_b)

  -- what is known from a look, at v and from there on
  pub record Shown (w loud : ℕ) : Type 0 where
    pub here : RowIs f s h i loud v
    pub on : Known f s h v w (RowIs f s h i loud)

  idle_shown : ((e : ℕ) → enabled_b row v e ≡ false) → Shown (enabling d (i + 1)) 0
  idle_shown off = record {
    here = record { keeps = all_in _ (λ _. true) row.span 0 (λ e _ _. rw (off e)) ∙ all_yes (λ _. true) (λ _. refl) row.span 0; is_loud = λ z. absurd (z refl) };
    on = λ x xa holds a. record { keeps = held.idle_row f s h task.fits v x task.state xa i l a off; is_loud = λ z. absurd (z refl) };
  }

  seen_shown : (quiet : Bool) → keeps_b ≡ true → quiet_b ≡ quiet → Shown (watched d (i + 1)) (loud_of quiet)
  seen_shown quiet k q = record {
    here = record { keeps = k; is_loud = λ z. q ∙ loud quiet z };
    on = λ x xa holds a. record {
      keeps = held.keeps_row f s h task.fits v x task.state xa i l task.sure holds a k;
      is_loud = λ z. held.loud_row f s h task.fits v x task.state xa i l task.sure holds a (q ∙ loud quiet z);
    };
  }
    where
      loud : (b : Bool) → (loud_of b ≡ 0 → ⊥) → b ≡ false
      loud true z = absurd (z refl)
      loud false z = refl

  pub looked : (r : Look) → r ≡ look_inside f s h p sets i v t → is_some r.seen ≡ true → Shown r.watch (loud_of (unwrap_or r.seen false))
  unfolding look_inside
  looked r er holds = go (idle_in f s h p i v) refl er
    where
      found : Bool → Look
      found b = cond b (record { seen = Some true; watch = get_or sets i 0 }) (record { seen = seen_in f s h p i v t; watch = get_or sets (32 + i) 0 })

      quiet-r : Bool
      quiet-r = unwrap_or r.seen false

      go : (b : Bool) → idle_in f s h p i v ≡ b → r ≡ found b → Shown r.watch (loud_of quiet-r)
      go true y e = rw (e, task.sets_are.enable i listed) (idle_shown (idle_means y))
      go false y e =
          let k : keeps_b ≡ true = and_left keeps_b true (sym (seen_holds (keeps_b && true) ((keeps_b && quiet_b) && true)) ∙ sym (ap is_some sight) ∙ sym (ap (λ (z : Look). is_some z.seen) e) ∙ holds) in
          let q : quiet_b ≡ quiet-r = sym (ap (λ (z : Look). unwrap_or z.seen false) e ∙ ap (λ o. unwrap_or o false) sight ∙ rw (seen_quiet (keeps_b && true) ((keeps_b && quiet_b) && true), k) (and-true quiet_b)) in
          subst (λ w. Shown w (loud_of quiet-r)) (sym (ap (λ (z : Look). z.watch) e ∙ task.sets_are.watch i listed)) (seen_shown quiet-r k q)

-- ---- the reply to a row of the specification

module _ (f s : List ℕ) (h : Shape) (p sets v t : List ℕ) (task : Task f s h p sets v) where
  pub replied_on : (i : ℕ) → Replied f s h i v → Known f s h v (reply_watched (design_at f s h) (i + 1)) (Replied f s h i)
  replied_on i k x xa holds a = held.replied_row f s h task.fits v x task.state xa i a k

  module _ (et : t ≡ mapped_in f s h v) (i : ℕ) (l : i < h.specification.rows.count) where
    pub reply_looked : spec_between f s h p i (i + 1) v t ≡ true → Replied f s h i v
    unfolding mapped_in spec_between all_in_range
    reply_looked z =
        ap (λ (q : Row). all_in_range (λ e. enabled_b q (mapped (design_at f s h) v) e ⇒ enabled_b (partner (design_at f s h).impl q.action) v e) q.span 0) (row_is f s h.specification i l)
        ∙ sym (row_replied f s h task.fits v i l) ∙ rw (← et, ← task.planned) y
      where
        one_row : i + 1 - i ≡ 1
        one_row = omega arith

        y : reply_in f s h (i + 1) (row_plan_at p (32 + i)) v t ≡ true
        y = and_left (reply_in f s h (i + 1) (row_plan_at p (32 + i)) v t) true (rw one_row at z)

  -- ---- the mapped state

  pub mapped_on : MappedIs f s h t v → Known f s h v (all_of (map_reads (design_at f s h))) (MappedIs f s h t)
  unfolding mapped_in
  mapped_on k x xa holds a =
      let e = held.mapped_same f s h task.fits v x task.state xa a in
      record { is = k.is ∙ ap padded (sym e); in_size = ap (λ y. below_b (sizes (design_at f s h).spec) y) e ∙ k.in_size }
