-- By the right plan the quick test of specs/Passes is that of the crate decision for the design in the arrays, at an array v whose mapped
-- state t holds. Where nothing in a row, its mark and its partner reads the sum value, one look does for all.
use mathlib.Core.Path.{◌≡◌, refl, sym, ◌∙◌, ap}
use mathlib.Core.Logic.{◌⊎◌, inl, inr}
use mathlib.Core.Bool.{Bool, true, false, not, ◌&&◌, ◌||◌, true≢false, or-true, and-true, cond}
use mathlib.Core.List.{List}
use Rattle.std.specs.Prelude.{Option, is_some}
use Prim.Native.Nat.{ℕ, zero, suc, ◌+◌, ◌-◌, ◌≤◌, ◌<◌, min}
use native.Mathlib.Omega.{arith}
use borrow.Author.Tests.{eqb-true}
use lib.Dec.{eqb, ltb, eqb-suc-zero}
use lib.ListN.{length, get_or, drop, length-map}
use Rattle.foundation.specs.First.{all_in_range}
use Rattle.foundation.specs.Radix.{same_b}
use Rattle.foundation.specs.Reflects.{◌⇒◌}
use Rattle.foundation.proofs.First.{all_alike, all_both}
use Rattle.foundation.proofs.All.{all_in, all_yes}
use Rattle.terms.specs.Tree.{eval_f}
use Rattle.terms.specs.Read.{read_f}
use Rattle.terms.proofs.Read.{place}
use Rattle.terms.proofs.And.{and_left, and_right}
use Rattle.sum_free.specs.SumFree.{sum_free_f}
use Rattle.sum_free.proofs.SumFree.{same_f}
use Rattle.criteria.specs.Design.{Design, Row, State, mapped, measure_at}
use Rattle.criteria.specs.Step.{next_state, data_number}
use Rattle.criteria.specs.Rows.{row_at, marked_test}
use Rattle.criteria.proofs.Rows.{is_row_below}
use Rattle.decision.specs.Tests.{enabled_b, internal_b, marked_b, has_invariant_b, has_mapping_b, has_measure_b, inside_b, all_rows, focus_b, row_number, partner, holds2, holds3, holds4, holds6, holds7, holds8, holds9}
use Rattle.decision.specs.Quick.{row_holds, state_holds}
use Rattle.decision.proofs.Quick.{rows_none}
use Rattle.decision.proofs.Alike.{formula_alike, has_value_alike, has_formula_alike, have_alike}
use Rattle.decision.proofs.Find.{Found, Missing, find, found_at, found_partner}
use Rattle.design.specs.Line as line
use Rattle.design.specs.Loaded.{process_in, design_at}
use Rattle.design.specs.declared.Process.{Process}
use Rattle.design.specs.declared.Shape.{Shape}
use Rattle.layout.specs.Sizes.{Fits}
use Rattle.steps.specs.Arrays.{padded, step_of, values_at, line_of, row_with, same_in, measure_in, row_by, partner_by}
use Rattle.marks.specs.Marks.{mark_holds}
use Rattle.steps.specs.declared.Step.{Step}
use Rattle.steps.proofs.Arrays.{row_there}
use Rattle.steps.proofs.States as states
use Rattle.conjuncts.specs.Conjuncts.{front_of, guard_in}
use Rattle.conjuncts.proofs.Conjuncts.{guards}
use Rattle.conjuncts.specs.declared.Guarded.{Guarded}
use Rattle.row_plan.specs.RowPlan.{no_mark, row_plan_at, risk_at}
use Rattle.plan.specs.Plan.{sum_free_of, partner_free, looks_of, mark_in, row_plan_of, plan_in, kinds_risk}
use Rattle.plan.proofs.Risks.{kinds_risk_at}
use Rattle.plan.proofs.Safe.{kinds_have}
use Rattle.divisors.specs.Divisors.{safe_at}
use Rattle.defined.specs.Defined.{has_invariant_in, has_mapping_in, has_measure_in}
use Rattle.row_plan.specs.declared.RowPlan.{RowPlan}
use Rattle.row_plan.specs.declared.Mark.{Mark}
use Rattle.plan.proofs.Planned.{impl_row_plan, spec_row_plan}
use Rattle.plan.proofs.Held.{AsForZero, as_for_zero, condition_free, taken_held, row_as_is, row_line_lem, row_by_lem, numbered, planned, marks_are}
use Rattle.step_passes.specs.Steps.{has_values_in, kept_in, answered_in, internal_step, visible_step}
use Rattle.state_passes.specs.Passes.{row_for, step_inside, step_of_row, seen, quiet, looks_in, row_in, impl_in, impl_between, reply_looks, reply_in, spec_in, spec_between, passes_in}
use Rattle.state_passes.proofs.Seeing.{seen_holds, seen_quiet}

-- a row's condition for the sum value e, taken for 0 where it is said to be sum-free
abbrev on_in : Row → List ℕ → Bool → ℕ → Bool
on_in r v free e = enabled_b r v (cond free 0 e)

-- ---- tests of numbers, one after the other

-- one that says the same for all numbers is asked once
all_once : (g : ℕ → Bool) (n : ℕ) → ((j : ℕ) → g j ≡ g 0) → all_in_range g (min n 1) 0 ≡ all_in_range g n 0
unfolding all_in_range
all_once g zero h = refl
all_once g (suc n) h = let e : min (suc n) 1 ≡ 1 = omega arith in rw e (go (g 0) refl)
  where
    go : (b : Bool) → g 0 ≡ b → g 0 && true ≡ g 0 && all_in_range g n 1
    go true e = rw e (sym (all_in g (λ _. true) n 1 (λ j l u. h j ∙ e) ∙ all_yes (λ _. true) (λ _. refl) n 1))
    go false e = rw e

all_looks : (g : ℕ → Bool) (free : Bool) (n : ℕ) → (free ≡ true → (j : ℕ) → g j ≡ g 0) → all_in_range g (looks_of free n) 0 ≡ all_in_range g n 0
unfolding looks_of
all_looks g true n h = all_once g n (h refl)
all_looks g false n h = refl

-- where all rows hold, what is said of the others counts
arranged : (a b r : Bool) → is_some (seen a (a && b)) && (quiet (seen a (a && b)) ⇒ r) ≡ a && (b ⇒ r)
arranged true b r = refl
arranged false b r = refl

-- ---- all criteria at a row and a sum value

at_once : (en i int hi hm hμ mk s4 l5 q6 j0 d8 s9 : Bool) → (j0 ≡ true → q6 ≡ false)
    → (en ⇒ cond int (i && ((hi && (hm && (mk ⇒ hμ))) && (s4 && (mk ⇒ l5)))) (i && ((hi && (hm && true)) && (q6 && (d8 && s9)))))
    ≡ (en ⇒ (i && hi)) && ((en ⇒ int ⇒ (s4 && hm)) && ((en ⇒ int ⇒ mk ⇒ (l5 && hμ)) && ((en ⇒ not int ⇒ q6) && ((en ⇒ not int ⇒ not j0 ⇒ d8) && (en ⇒ not int ⇒ not j0 ⇒ (s9 && hm))))))
at_once false i int hi hm hμ mk s4 l5 q6 j0 d8 s9 h = refl
at_once true false true hi hm hμ mk s4 l5 q6 j0 d8 s9 h = refl
at_once true false false hi hm hμ mk s4 l5 q6 j0 d8 s9 h = refl
at_once true true true false hm hμ mk s4 l5 q6 j0 d8 s9 h = refl
at_once true true false false hm hμ mk s4 l5 q6 j0 d8 s9 h = refl
at_once true true true true false hμ mk true l5 q6 j0 d8 s9 h = refl
at_once true true true true false hμ mk false l5 q6 j0 d8 s9 h = refl
at_once true true true true true hμ false true l5 q6 j0 d8 s9 h = refl
at_once true true true true true hμ false false l5 q6 j0 d8 s9 h = refl
at_once true true true true true true true true true q6 j0 d8 s9 h = refl
at_once true true true true true true true true false q6 j0 d8 s9 h = refl
at_once true true true true true true true false l5 q6 j0 d8 s9 h = refl
at_once true true true true true false true true true q6 j0 d8 s9 h = refl
at_once true true true true true false true true false q6 j0 d8 s9 h = refl
at_once true true true true true false true false l5 q6 j0 d8 s9 h = refl
at_once true true false true true hμ mk s4 l5 false j0 d8 s9 h = refl
at_once true true false true false hμ mk s4 l5 false j0 d8 s9 h = refl
at_once true true false true hm hμ mk s4 l5 true true d8 s9 h = absurd (true≢false (h refl))
at_once true true false true true hμ mk s4 l5 true false true true h = refl
at_once true true false true true hμ mk s4 l5 true false true false h = refl
at_once true true false true true hμ mk s4 l5 true false false s9 h = refl
at_once true true false true false hμ mk s4 l5 true false true true h = refl
at_once true true false true false hμ mk s4 l5 true false true false h = refl
at_once true true false true false hμ mk s4 l5 true false false s9 h = refl

on_held : (r : Row) (x : State) (e : ℕ) → on_in r x (sum_free_f r.condition) e ≡ enabled_b r x e
on_held r x e = taken_held r.condition x e

-- ---- the conjuncts in front of a condition

module _ (f s : List ℕ) (h : Shape) (v t : List ℕ) (l : ℕ) where
  abbrev front : List ℕ → Guarded
  front z = guard_in f z 0 (front_of f (l + 3) 32) (l + 3) 32

  abbrev rest : List ℕ → ℕ → Bool
  rest z e = eval_f (read_f (front z).depth (drop (front z).at f)).tree z e

  -- the condition of the row in the line that starts at l
  pub on_guarded : (z : List ℕ) (n e : ℕ) → enabled_b (line.row_of n (drop l f)) z e ≡ (front z).holds && rest z e
  on_guarded z n e = rw (place f l 3 refl) (guards f z e 32 (l + 3)).says

  module _ (en : RowPlan) where
    module _ (risk m : ℕ) where
      abbrev row : Row
      row = line.row_of h.implementation.parameters.count (drop l f)

      -- its step, by where the data stand
      step_by_place : en.internal ≡ internal_b row → (g : Guarded) (p : ℕ) (marked : Bool) (e : ℕ)
          → step_inside f s h (row_for g en p risk) (l + 3 + (read_f 32 (drop (l + 3) f)).used) marked v t m e ≡ step_of_row f s h risk row marked en.partner v t m e
      unfolding internal_step visible_step step_of_row values_at
      step_by_place ei g p marked e = rw (ei, place f l 3 refl, place f (l + 3) _ refl, place f (l + 3 + _) _ refl)

      module _ (p : ℕ) (ei : en.internal ≡ internal_b row) where
        -- its mark, which stands at p
        abbrev marked : ℕ → Bool
        marked e = mark_holds f p v (cond en.mark.free 0 e)

        guarded_row : cond (front v).holds (looks_in f s h (row_for (front v) en p risk) v t m) (seen true true)
            ≡ seen (all_in_range (λ e. on_in row v en.free e ⇒ step_of_row f s h risk row (marked e) en.partner v t m e) en.looks 0)
            (not en.internal || all_in_range (λ e. not (on_in row v en.free e && marked e)) en.looks 0)
        unfolding looks_in
        guarded_row = go (front v).holds refl
          where
            held : ℕ → Bool
            held e = on_in row v en.free e ⇒ step_of_row f s h risk row (marked e) en.partner v t m e

            off : ℕ → Bool
            off e = not (on_in row v en.free e && marked e)

            go : (b : Bool) → (front v).holds ≡ b → cond b (looks_in f s h (row_for (front v) en p risk) v t m) (seen true true)
                ≡ seen (all_in_range held en.looks 0) (not en.internal || all_in_range off en.looks 0)
            go true y =
                let on : (e : ℕ) → rest v (cond en.free 0 e) ≡ on_in row v en.free e =
                λ e. sym (on_guarded v h.implementation.parameters.count (cond en.free 0 e) ∙ ap (λ b. b && rest v (cond en.free 0 e)) y) in
                let step : (e : ℕ) → step_inside f s h (row_for (front v) en p risk) ((front v).at + (read_f (front v).depth (drop (front v).at f)).used) (marked e) v t m e
                ≡ step_of_row f s h risk row (marked e) en.partner v t m e =
                λ e. ap (λ k. step_inside f s h (row_for (front v) en p risk) k (marked e) v t m e) (sym ((guards f v e 32 (l + 3)).ends y))
                ∙ step_by_place ei (front v) p (marked e) e in
                λ i. seen (all_alike _ held en.looks 0 (λ e k. on e k ⇒ step e k) i)
                (not en.internal || all_alike _ off en.looks 0 (λ e. ap (λ b. not (b && marked e)) (on e)) i)
            go false y =
                let none : (e : ℕ) → on_in row v en.free e ≡ false =
                λ e. on_guarded v h.implementation.parameters.count (cond en.free 0 e) ∙ ap (λ b. b && rest v (cond en.free 0 e)) y in
                sym
                (rw (
                  all_alike held (λ _. true) en.looks 0 (λ e. ap (λ b. b ⇒ step_of_row f s h risk row (marked e) en.partner v t m e) (none e)),
                  all_alike off (λ _. true) en.looks 0 (λ e. ap (λ b. not (b && marked e)) (none e)),
                  all_yes (λ _. true) (λ _. refl) en.looks 0,
                  or-true (not en.internal),
                ))

    abbrev back : Row
    back = line.row_of h.specification.parameters.count (drop l f)

    abbrev enabled_back : ℕ → Bool
    enabled_back e = enabled_b (partner_by f s h.implementation en.partner) v e

    guarded_reply : cond (front t).holds (reply_looks f s h.implementation (row_for (front t) en 0 0) v t) true
        ≡ all_in_range (λ e. on_in back t en.free e ⇒ enabled_back e) en.looks 0
    unfolding reply_looks
    guarded_reply = go (front t).holds refl
      where
        held : ℕ → Bool
        held e = on_in back t en.free e ⇒ enabled_back e

        on : (e : ℕ) → on_in back t en.free e ≡ (front t).holds && rest t (cond en.free 0 e)
        on e = on_guarded t h.specification.parameters.count (cond en.free 0 e)

        go : (b : Bool) → (front t).holds ≡ b → cond b (reply_looks f s h.implementation (row_for (front t) en 0 0) v t) true ≡ all_in_range held en.looks 0
        go true y = all_alike _ held en.looks 0 (λ e. ap (λ b. b ⇒ enabled_back e) (sym (on e ∙ ap (λ b. b && rest t (cond en.free 0 e)) y)))
        go false y =
            sym (all_alike held (λ _. true) en.looks 0 (λ e. ap (λ b. b ⇒ enabled_back e) (on e ∙ ap (λ b. b && rest t (cond en.free 0 e)) y)) ∙ all_yes (λ _. true) (λ _. refl) en.looks 0)

-- ---- the rows of a process

module _ (f s : List ℕ) (p : Process) where
  -- the partner of an action, by its number
  partner_by_lem : (a : ℕ) → partner_by f s p (row_number (process_in f s p) a) ≡ partner (process_in f s p) a
  unfolding partner_by row_by line_of
  partner_by_lem a = go (row_number (process_in f s p) a) refl (find (process_in f s p).rows a 1)
    where
      go : (j : ℕ) → row_number (process_in f s p) a ≡ j → Found (process_in f s p).rows a 1 ⊎ Missing (process_in f s p).rows a 1 → partner_by f s p j ≡ row_at (process_in f s p).rows j
      go zero e g = refl
      go (suc j) e (inl g) =
          let below = is_row_below g.is_row in
          let at = found_at (process_in f s p) a g in
          let n = states.rows_count f s p in
          rw (eqb-suc-zero j) (sym (row_there f s p (suc j) (omega arith) (omega arith)))
      go (suc j) e (inr m) = absurd (let z = m.number in omega arith)

-- ---- the design

module _ (f s : List ℕ) (h : Shape) (fits : Fits h) (v : State) where
  abbrev d : Design
  d = design_at f s h

  abbrev y : List ℕ
  y = mapped d v

  abbrev t : List ℕ
  t = padded y

  abbrev n1 : ℕ
  n1 = h.implementation.parameters.count

  abbrev n2 : ℕ
  n2 = h.specification.parameters.count

  -- what could leave invariant, mapping or measure without a value
  abbrev kinds : ℕ
  kinds = kinds_risk f s h

  short : length y ≤ 8
  short = rw (states.mapped_length f s h v) fits.specification.parameters

  no_row : (a e : ℕ) → row_number d.spec a ≡ 0 → enabled_b (partner d.spec a) y e ≡ false
  unfolding eval_f
  no_row a e z = rw z

  -- ---- a row of the implementation

  module _ (r : Row) (long : length r.next ≡ n1) where
    abbrev j : ℕ
    j = row_number d.spec r.action

    abbrev q : Row
    q = partner d.spec r.action

    module _ (e : ℕ) where
      abbrev n : List ℕ
      n = next_state r v e

      n_length : length n ≡ n1
      n_length = length-map r.next _ ∙ long

      n_short : length n ≤ 8
      n_short = rw n_length fits.implementation.parameters

      abbrev answers : Bool
      answers = enabled_b q y e && (eqb (data_number r v e) (data_number q y e) && same_b (mapped d n) (next_state q y e))

      answered_held : answered_in f s h.specification j (data_number r v e) (padded (mapped d n)) t e ≡ answers
      unfolding answered_in step_of
      answered_held =
          rw (partner_by_lem f s h.specification r.action)
          (ap (λ (z : Step). z.enabled && (eqb (data_number r v e) z.carries && same_in n2 (padded (mapped d n)) z.next)) (states.step_held y short q e)
          ∙ go (find d.spec.rows r.action 1))
        where
          go : Found d.spec.rows r.action 1 ⊎ Missing d.spec.rows r.action 1
              → enabled_b q y e && (eqb (data_number r v e) (data_number q y e) && same_in n2 (padded (mapped d n)) (padded (next_state q y e))) ≡ answers
          go (inr m) = rw (no_row r.action e m.number)
          go (inl g) =
              let long-next : length (next_state q y e) ≡ n2 =
              length-map q.next _ ∙ ap (λ (z : Row). length z.next) (found_partner d.spec r.action g)
              ∙ states.rows_length f s h.specification g.at g.row g.is_row in
              rw (states.same_held (mapped d n) (next_state q y e) n2 (states.mapped_length f s h n) long-next fits.specification.parameters)

      -- values where it leads
      agree : (i : ℕ) → get_or (padded n) i 0 ≡ get_or n i 0
      agree = states.same_values n n_short

      abbrev there : Bool → Bool
      there measured = has_invariant_b d n && (has_mapping_b d n && (measured ⇒ has_measure_b d n))

      there_held : (measured : Bool) → has_values_in f s h kinds (padded n) measured ≡ there measured
      unfolding has_values_in has_invariant_in has_mapping_in has_measure_in
      there_held measured =
          rw (
            has_formula_alike (padded n) n agree d.invariant 0,
            have_alike (padded n) n agree d.mapping 0,
            has_value_alike (padded n) n agree d.measure 0,
          )
          (go (safe_at kinds (padded n)) refl)
        where
          go : (b : Bool) → safe_at kinds (padded n) ≡ b → b || there measured ≡ there measured
          go false z = refl
          go true z =
              let safe = kinds_have f s h (padded n) z in
              let hi : has_invariant_b d n ≡ true = sym (has_formula_alike (padded n) n agree d.invariant 0) ∙ safe.0 in
              let hm : has_mapping_b d n ≡ true = sym (have_alike (padded n) n agree d.mapping 0) ∙ safe.1.0 in
              let hμ : has_measure_b d n ≡ true = sym (has_value_alike (padded n) n agree d.measure 0) ∙ safe.1.1 in
              sym (rw (hi, hm, hμ, or-true (not measured)))

      step_held : (marked : Bool) → step_of_row f s h kinds r marked j v t (measure_at d v) e
          ≡ cond (internal_b r) (inside_b d n && (there marked && (same_b y (mapped d n) && (marked ⇒ ltb (measure_at d n) (measure_at d v)))))
          (inside_b d n && (there false && answers))
      unfolding step_of_row kept_in
      step_held marked =
          rw (
            states.inside_held f s h fits n n_length,
            there_held marked,
            there_held false,
            states.mapped_held f s h n n_short,
            states.measure_held f s h n n_short,
            states.same_held y (mapped d n) n2 (states.mapped_length f s h v) (states.mapped_length f s h n) fits.specification.parameters,
            answered_held,
          )

      -- of any mark
      row_made : (marked : Bool) → (enabled_b r v e ⇒ step_of_row f s h kinds r marked j v t (measure_at d v) e)
          ≡ holds3 d v r e && (holds4 d v r e && ((enabled_b r v e ⇒ internal_b r ⇒ marked ⇒ (ltb (measure_at d n) (measure_at d v) && has_measure_b d n)) && (holds6 d v r e && (holds8 d v r e && holds9 d v r e))))
      row_made marked =
          rw (step_held marked)
          (at_once (enabled_b r v e) (inside_b d n) (internal_b r) (has_invariant_b d n) (has_mapping_b d n) (has_measure_b d n) marked (same_b y (mapped d n)) (ltb (measure_at d n) (measure_at d v))
          (enabled_b q y e) (eqb j 0) (eqb (data_number r v e) (data_number q y e)) (same_b (mapped d n) (next_state q y e)) (λ z. no_row r.action e (eqb-true j 0 z)))

    -- ---- row number k, whose mark says `marks`, and is sum-free or not

    module _ (k : ℕ) (marks : ℕ → Bool) (steady : Bool) (once : steady ≡ true → (e : ℕ) → marks e ≡ marks 0)
        (says : internal_b r ≡ true → (e : ℕ) → marks e ≡ marked_b d k v e) where
      -- the mark of a row that is not internal is not asked for
      mark_behind : (e : ℕ) (x : Bool) → (internal_b r ⇒ marks e ⇒ x) ≡ (internal_b r ⇒ marked_b d k v e ⇒ x)
      mark_behind e x = go (internal_b r) refl
        where
          go : (b : Bool) → internal_b r ≡ b → (b ⇒ marks e ⇒ x) ≡ (b ⇒ marked_b d k v e ⇒ x)
          go true z = ap (λ m. m ⇒ x) (says z e)
          go false z = refl

      row_held : (e : ℕ) → (enabled_b r v e ⇒ step_of_row f s h kinds r (marks e) j v t (measure_at d v) e) ≡ row_holds d v k r e
      row_held e =
          row_made e (marks e)
          ∙ ap (λ b. holds3 d v r e && (holds4 d v r e && ((enabled_b r v e ⇒ b) && (holds6 d v r e && (holds8 d v r e && holds9 d v r e)))))
          (mark_behind e (ltb (measure_at d (next_state r v e)) (measure_at d v) && has_measure_b d (next_state r v e)))

      -- one look does for all
      abbrev parts : Bool
      parts = sum_free_of true r && sum_free_of true q

      abbrev free : Bool
      free = parts && steady

      row_zero : free ≡ true → (e : ℕ) → AsForZero r v e
      row_zero z e = as_for_zero r v e (and_left (sum_free_of true r) (sum_free_of true q) (and_left parts steady z))

      partner_zero : free ≡ true → (e : ℕ) → AsForZero q y e
      partner_zero z e = as_for_zero q y e (and_right (sum_free_of true r) (sum_free_of true q) (and_left parts steady z))

      looked : ℕ → Bool
      looked e = enabled_b r v e ⇒ step_of_row f s h kinds r (marks e) j v t (measure_at d v) e

      row_once : free ≡ true → (e : ℕ) → looked e ≡ looked 0
      unfolding looked
      row_once z e =
          let a = row_zero z e in
          let b = partner_zero z e in
          row_made e (marks e) ∙ rw (a.on, a.number, a.next, b.on, b.number, b.next, once (and_right parts steady z) e) (sym (row_made 0 (marks 0)))

      quiet_once : free ≡ true → (e : ℕ) → not (enabled_b r v e && marks e) ≡ not (enabled_b r v 0 && marks 0)
      quiet_once z e = let a = row_zero z e in rw (a.on, once (and_right parts steady z) e)

      abbrev looks : ℕ
      looks = looks_of free r.span

      abbrev every_one_holds : Bool
      every_one_holds = all_in_range (λ e. row_holds d v k r e) r.span 0

      abbrev all_quiet : Bool
      all_quiet = all_in_range (λ e. not (marked_test d v k r e)) r.span 0

      all_held : all_in_range (λ e. on_in r v (sum_free_f r.condition) e ⇒ step_of_row f s h kinds r (marks e) j v t (measure_at d v) e) looks 0 ≡ every_one_holds
      unfolding looked
      all_held =
          all_alike _ looked looks 0 (λ e. ap (λ b. b ⇒ step_of_row f s h kinds r (marks e) j v t (measure_at d v) e) (on_held r v e))
          ∙ all_looks looked free r.span row_once
          ∙ all_alike looked (λ e. row_holds d v k r e) r.span 0 row_held

      quiet_held : not (internal_b r) || all_in_range (λ e. not (on_in r v (sum_free_f r.condition) e && marks e)) looks 0 ≡ all_quiet
      quiet_held =
          ap (λ b. not (internal_b r) || b)
          (all_alike _ (λ e. not (enabled_b r v e && marks e)) looks 0 (λ e. ap (λ b. not (b && marks e)) (on_held r v e))
          ∙ all_looks (λ e. not (enabled_b r v e && marks e)) free r.span quiet_once)
          ∙ go (internal_b r) refl
        where
          go : (b : Bool) → internal_b r ≡ b → not b || all_in_range (λ e. not (enabled_b r v e && marks e)) r.span 0 ≡ all_quiet
          go true z =
              all_alike (λ e. not (enabled_b r v e && marks e)) (λ e. not (marked_test d v k r e)) r.span 0
              (λ e. ap (λ b. not (enabled_b r v e && b)) (says z e) ∙ ap (λ b. not (b && (enabled_b r v e && marked_b d k v e))) (sym z))
          go false z =
              sym (all_alike (λ e. not (marked_test d v k r e)) (λ _. true) r.span 0 (λ e. ap (λ b. not (b && (enabled_b r v e && marked_b d k v e))) z)
              ∙ all_yes (λ _. true) (λ _. refl) r.span 0)

  -- ---- the rows of the implementation by the plan

  abbrev p : List ℕ
  p = plan_in f s h

  abbrev rows : ℕ
  rows = h.implementation.rows.count

  abbrev impl_row : ℕ → Row
  impl_row i = row_as_is f s h.implementation i

  impl_long : (i : ℕ) → length (impl_row i).next ≡ n1
  impl_long i = states.in_length n1 _

  abbrev impl_mark : ℕ → Mark
  impl_mark i = mark_in f s h (i + 1)

  abbrev impl_marks : ℕ → ℕ → Bool
  impl_marks i e = mark_holds f (planned f s h v i) v (cond (impl_mark i).free 0 e)

  marks_once : (i : ℕ) → (impl_mark i).free ≡ true → (e : ℕ) → impl_marks i e ≡ impl_marks i 0
  marks_once i z e = rw z

  module _ (i : ℕ) (l : i < rows) where
    says : internal_b (impl_row i) ≡ true → (e : ℕ) → impl_marks i e ≡ marked_b d (i + 1) v e
    says int = marks_are f s h v i l int

    abbrev impl_plan : RowPlan
    impl_plan = record {
      partner = j (impl_row i) (impl_long i);
      looks = looks (impl_row i) (impl_long i) (i + 1) (impl_marks i) (impl_mark i).free (marks_once i) says;
      internal = internal_b (impl_row i);
      free = sum_free_f (impl_row i).condition;
      front = front_of f (get_or s (h.implementation.rows.first + i) 0 + 3) 32;
      mark = impl_mark i;
    }

    impl_plan_lem : row_plan_at p i ≡ impl_plan
    unfolding row_plan_of partner_free row_with
    impl_plan_lem =
        let few = fits.implementation.rows in
        impl_row_plan f s h fits i (omega arith) l
        ∙ rw (partner_by_lem f s h.specification (row_by f s h.implementation (i + 1)).action, row_by_lem f s h.implementation i, row_line_lem f s h.implementation i)

  -- what is asked of row k
  abbrev holds_at : ℕ → Row → Bool
  holds_at k z = all_in_range (λ e. row_holds d v k z e) z.span 0

  abbrev quiet_at : ℕ → Row → Bool
  quiet_at k z = all_in_range (λ e. not (marked_test d v k z e)) z.span 0

  abbrev seen_at : ℕ → Option Bool
  seen_at i = row_in f s h (i + 1) (row_plan_at p i) (risk_at p 64) v t (measure_in f s h v)

  pub row_seen : (i : ℕ) → i < rows → seen_at i ≡ seen (holds_at (i + 1) (impl_row i)) (quiet_at (i + 1) (impl_row i))
  unfolding row_in measure_in
  row_seen i l =
      rw (impl_plan_lem i l, kinds_risk_at f s h, row_line_lem f s h.implementation i)
      (guarded_row f s h v t (get_or s (h.implementation.rows.first + i) 0) (impl_plan i l) kinds (measure_at d v) (planned f s h v i) refl
      ∙ rw (
        all_held (impl_row i) (impl_long i) (i + 1) (impl_marks i) (impl_mark i).free (marks_once i) (says i l),
        quiet_held (impl_row i) (impl_long i) (i + 1) (impl_marks i) (impl_mark i).free (marks_once i) (says i l),
      ))

  abbrev rows_hold : Bool
  rows_hold = all_in_range (λ i. holds_at (i + 1) (impl_row i)) rows 0

  abbrev rows_quiet : Bool
  rows_quiet = all_in_range (λ i. quiet_at (i + 1) (impl_row i)) rows 0

  impl_held : impl_in f s h p v t (measure_in f s h v) ≡ seen rows_hold (rows_hold && rows_quiet)
  unfolding impl_between
  impl_held =
      let all : rows - 0 ≡ rows = omega arith in
      let ho : ℕ → Bool = λ i. holds_at (i + 1) (impl_row i) in
      let qu : ℕ → Bool = λ i. quiet_at (i + 1) (impl_row i) in
      rw (
        all,
        all_in (λ i. is_some (seen_at i)) ho rows 0 (λ i z u. ap is_some (row_seen i (omega arith)) ∙ seen_holds (ho i) (qu i)),
        all_in (λ i. quiet (seen_at i)) (λ i. ho i && qu i) rows 0 (λ i z u. ap quiet (row_seen i (omega arith)) ∙ seen_quiet (ho i) (qu i)),
        all_both ho qu rows 0,
      )

  pub rows_held_lem : rows_hold ≡ all_rows d.impl.rows (row_holds d v)
  rows_held_lem = numbered f s h.implementation holds_at

  pub focus_held : rows_quiet ≡ focus_b d v
  focus_held = numbered f s h.implementation quiet_at ∙ sym (rows_none d.impl.rows (marked_test d v) (λ k e. (k, e)))

  -- ---- the rows of the specification by the plan

  abbrev spec_row : ℕ → Row
  spec_row i = row_as_is f s h.specification i

  module _ (w : Row) where
    abbrev other : Row
    other = partner d.impl w.action

    abbrev replies : ℕ → Bool
    replies e = enabled_b w y e ⇒ enabled_b other v e

    abbrev other_free : Bool
    other_free = sum_free_of false w && sum_free_of false other

    replied_held : (e : ℕ) → (on_in w t (sum_free_f w.condition) e ⇒ enabled_b (partner_by f s h.implementation (row_number d.impl w.action)) v e) ≡ replies e
    replied_held e =
        rw (partner_by_lem f s h.implementation w.action, formula_alike t y (states.same_values y short) w.condition (cond (sum_free_f w.condition) 0 e))
        (ap (λ b. b ⇒ enabled_b other v e) (on_held w y e))

    replies_once : other_free ≡ true → (e : ℕ) → replies e ≡ replies 0
    replies_once z e =
        rw (
          same_f w.condition y e 0 (condition_free w (and_left (sum_free_of false w) (sum_free_of false other) z)),
          same_f other.condition v e 0 (condition_free other (and_right (sum_free_of false w) (sum_free_of false other) z)),
        )

    reply_held : all_in_range (λ e. on_in w t (sum_free_f w.condition) e ⇒ enabled_b (partner_by f s h.implementation (row_number d.impl w.action)) v e) (looks_of other_free w.span) 0
        ≡ all_in_range replies w.span 0
    reply_held = all_alike _ replies (looks_of other_free w.span) 0 replied_held ∙ all_looks replies other_free w.span replies_once

  abbrev spec_plan : ℕ → RowPlan
  spec_plan i = record {
    partner = row_number d.impl (spec_row i).action;
    looks = looks_of (other_free (spec_row i)) (spec_row i).span;
    internal = internal_b (spec_row i);
    free = sum_free_f (spec_row i).condition;
    front = front_of f (get_or s (h.specification.rows.first + i) 0 + 3) 32;
    mark = no_mark;
  }

  spec_plan_lem : (i : ℕ) → i < h.specification.rows.count → row_plan_at p (32 + i) ≡ spec_plan i
  unfolding row_plan_of partner_free row_with
  spec_plan_lem i l =
      let few = fits.specification.rows in
      spec_row_plan f s h fits i (omega arith) l
      ∙ rw (partner_by_lem f s h.implementation (row_by f s h.specification (i + 1)).action, row_by_lem f s h.specification i, row_line_lem f s h.specification i, and-true (other_free (spec_row i)))

  pub row_replied : (i : ℕ) → i < h.specification.rows.count → reply_in f s h (i + 1) (row_plan_at p (32 + i)) v t ≡ all_in_range (replies (spec_row i)) (spec_row i).span 0
  unfolding reply_in
  row_replied i l =
      rw (spec_plan_lem i l, row_line_lem f s h.specification i)
      (guarded_reply f s h v t (get_or s (h.specification.rows.first + i) 0) (spec_plan i) ∙ reply_held (spec_row i))

  -- what criterion 7 asks of row k
  abbrev replied7 : ℕ → Row → ℕ → Bool
  replied7 k z e = enabled_b z y e ⇒ enabled_b (partner d.impl z.action) v e

  abbrev sevens : Bool
  sevens = all_rows d.spec.rows replied7

  spec_held : spec_in f s h p v t ≡ sevens
  unfolding spec_between
  spec_held =
      let all : h.specification.rows.count - 0 ≡ h.specification.rows.count = omega arith in
      ap (λ n. all_in_range (λ i. reply_in f s h (i + 1) (row_plan_at p (32 + i)) v t) n 0) all
      ∙ all_in (λ i. reply_in f s h (i + 1) (row_plan_at p (32 + i)) v t) (λ i. all_in_range (replies (spec_row i)) (spec_row i).span 0) h.specification.rows.count 0
      (λ i z u. row_replied i (omega arith))
      ∙ numbered f s h.specification (λ k z. all_in_range (λ e. replied7 k z e) z.span 0)

  -- criterion 7 at a focus point, and nothing elsewhere
  pub sevens_held : (focus_b d v ⇒ sevens) ≡ all_rows d.spec.rows (λ _. holds7 d v)
  sevens_held = go (focus_b d v)
    where
      go : (b : Bool) → (b ⇒ sevens) ≡ all_rows d.spec.rows (λ k z e. b ⇒ replied7 k z e)
      go true = refl
      go false = sym (all_yes _ (λ k. all_yes (λ _. true) (λ _. refl) (row_at d.spec.rows k).span 0) (length d.spec.rows) 1)

  -- ---- the state

  pub quick_held : passes_in f s h (plan_in f s h) v t ≡ state_holds d v
  unfolding passes_in
  quick_held =
      rw (
        states.below_held f s h.specification fits.specification y (states.mapped_length f s h v),
        impl_held,
        spec_held,
        focus_held,
        rows_held_lem,
        ← sevens_held,
      )
      (ap (λ b. holds2 d v && b) (arranged (all_rows d.impl.rows (row_holds d v)) (focus_b d v) sevens))
