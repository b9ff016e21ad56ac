-- What the functions that make the plan return, as specs/Plan says it, and the turns of their loops; and that the plan of a design
-- has the plan of each row.
use mathlib.Core.Path.{◌≡◌, refl, sym, ◌∙◌, ap}
use mathlib.Core.Logic.{◌⊎◌, inl, inr}
use mathlib.Core.Bool.{Bool, true, false, not, ◌&&◌, ◌||◌, and-true, and_assoc, cond}
use mathlib.Core.List.{List, [], ◌∷◌, ◌++◌}
use Prim.Native.Nat.{ℕ, suc, ◌+◌, ◌-◌, ◌*◌, ◌/◌, ◌%◌, ◌≤◌, ◌<◌}
use native.Mathlib.Numerals.{add-one}
use native.Mathlib.Decide.{dec_lt}
use native.Mathlib.Omega.{arith}
use borrow.Author.Tests.{not-true, not-false, eq-eqb, ne_eqb, le-leb, lt-leb, lt-ltb, le-ltb}
use lib.Dec.{eqb, ltb, leb}
use lib.ListN.{length, get_or, drop, set, replicate, length-drop}
use mir.Syntax.{w16}
use mir.Val.{Fits}
use Rattle.std.specs.Int.{from_bool}
use Rattle.foundation.specs.First.{all_in_range}
use Rattle.foundation.specs.Nth.{each_b}
use Rattle.terms.specs.Tree.{Value}
use Rattle.terms.specs.Read.{read_v, read_f}
use Rattle.terms.proofs.And.{and_left, and_right}
use Rattle.terms.proofs.Read.{place}
use Rattle.sum_free.specs.SumFree.{sum_free_v, sum_free_f, found_v, found_f}
use Rattle.sum_free.specs.declared.Found.{Found}
use Rattle.criteria.specs.Design.{Row}
use Rattle.criteria.proofs.Rows.{is_row_below}
use Rattle.decision.specs.Tests.{internal_b, row_number}
use Rattle.decision.proofs.Find.{Missing, find, found_at}
use Rattle.decision.proofs.Find as finds
use Rattle.design.specs.Loaded.{process_in}
use Rattle.design.specs.Line.{row_of, values_in, formulas_used}
use Rattle.design.proofs.Marks.{formulas_within}
use Rattle.layout.specs.Sizes.{Fits as ShapeFits}
use Rattle.steps.proofs.States.{rows_count}
use Rattle.design.specs.declared.Process.{Process}
use Rattle.design.specs.declared.Shape.{Shape}
use Rattle.steps.specs.Arrays.{line_of, row_by, partner_by, row_with}
use Rattle.marks.specs.Marks.{internal_in, after_formulas, mark_place, place_from}
use Rattle.conjuncts.specs.Conjuncts.{front_of}
use Rattle.row_plan.specs.RowPlan.{no_mark, no_row_plan, packed_of, row_plan_at, risks_from, risk_stored, stored, Blank}
use Rattle.row_plan.specs.declared.RowPlan.{RowPlan}
use Rattle.row_plan.specs.declared.Mark.{Mark}
use Rattle.row_plan.proofs.Numbers.{numbers_left, numbers_begin, numbers_turn, numbers_end, numbers_read, stored_none, stored_length, blank_turn}
use Rattle.plan.specs.Plan.{values_free, sum_free_of, frees_of, partner_free, looks_of, mark_in, mark_there, row_plan_of, row_plan_in, there_in, row_plan_for, impl_risk, spec_risk, risk_for, kinds_risk, sure_in, unsure, plan_in}
use Rattle.plan.specs.declared.Free.{Free}

-- ---- terms that do not read the sum value

module _ (f : List ℕ) (at n : ℕ) where
  unfoldable pub free_left : ℕ → ℕ → Bool
  free_left p i = each_b (λ (t : Value). sum_free_v t) (values_in (n - i) (drop p f))

  pub free_begin : free_left at 0 ≡ values_free f at n
  unfolding free_left values_free
  free_begin = let e : n - 0 ≡ n = omega arith in rw e

  frees : (p i : ℕ) (x : Found) → i < n → x ≡ found_v p (read_v 32 (drop p f)) → free_left p i ≡ x.free && free_left x.next (i + 1)
  unfolding free_left values_in
  frees p i x l ex = let e : n - i ≡ suc (n - (i + 1)) = omega arith in rw (e, ex, place f p _ refl)

  pub free_turn : (p i : ℕ) (x : Found) → i < n → x ≡ found_v p (read_v 32 (drop p f)) → not x.free ≡ false → free_left p i ≡ values_free f at n
      → free_left x.next (i + 1) ≡ values_free f at n
  free_turn p i x l ex h inv = sym (frees p i x l ex ∙ rw (not-false x.free h)) ∙ inv

  pub free_fail : (p i : ℕ) (x : Found) → i < n → x ≡ found_v p (read_v 32 (drop p f)) → not x.free ≡ true → free_left p i ≡ values_free f at n
      → false ≡ values_free f at n
  free_fail p i x l ex h inv = sym (frees p i x l ex ∙ rw (not-true x.free h)) ∙ inv

  pub free_end : (p i : ℕ) → n ≤ i → free_left p i ≡ values_free f at n → true ≡ values_free f at n
  unfolding free_left values_in
  free_end p i l inv = go ∙ inv
    where
      go : true ≡ free_left p i
      go = let e : n - i ≡ 0 = omega arith in rw e

frees_eq : {b b' c c' : Bool} → b ≡ b' → c ≡ c' → ◌≡◌ {A = Free} (record { condition = b; all = c }) (record { condition = b'; all = c' })
frees_eq p q i = record { condition = p i; all = q i }

-- where not all is asked for, or the condition reads it, the condition decides
only_condition : (whole b c : Bool) → not (whole && b) ≡ true → b ≡ b && (not whole || c)
only_condition true true c h = cc
only_condition true false c h = refl
only_condition false true c h = refl
only_condition false false c h = refl

module _ (f : List ℕ) (line n : ℕ) (whole : Bool) (h : Found) (eh : h ≡ found_f (line + 3) (read_f 32 (drop (line + 3) f))) where
  abbrev row : Row
  row = row_of n (drop line f)

  condition_is : h.free ≡ sum_free_f row.condition
  condition_is = rw (place f line 3 refl, eh)

  pub condition_free_is : not (whole && h.free) ≡ true → record { condition = h.free; all = h.free } ≡ frees_of whole row
  unfolding sum_free_of
  condition_free_is w =
      let rest : Bool = sum_free_v row.carries && each_b (λ (t : Value). sum_free_v t) row.next in
      let e : h.free && (not whole || rest) ≡ sum_free_of whole row = rw condition_is in
      frees_eq condition_is (only_condition whole h.free rest w ∙ e)

  pub row_free_is : (x : Found) (b : Bool) → not (whole && h.free) ≡ false → x ≡ found_v h.next (read_v 32 (drop h.next f)) → b ≡ values_free f x.next n
      → record { condition = true; all = x.free && b } ≡ frees_of whole row
  unfolding sum_free_of values_free
  row_free_is x b w ex eb =
      let all = not-false (whole && h.free) w in
      let free : true ≡ sum_free_f row.condition = sym (and_right whole h.free all) ∙ condition_is in
      frees_eq free (rw (← free, and_left whole h.free all, place f line 3 refl, eb, ex, eh, place f (line + 3) _ refl, place f (line + 3 + _) _ refl))

module _ (f s : List ℕ) (p : Process) (k : ℕ) (whole : Bool) where
  pub partner_free_none : k ≡ 0 → true ≡ partner_free f s p k whole
  unfolding partner_free partner_by sum_free_of sum_free_f
  partner_free_none z = rw z (go whole)
    where
      go : (b : Bool) → true ≡ sum_free_of b (partner_by f s p 0)
      go true = refl
      go false = refl

  pub partner_free_is : (line : ℕ) (x : Free) → (k ≡ 0 → ⊥) → line ≡ line_of s p k → x ≡ frees_of whole (row_of p.parameters.count (drop line f))
      → x.all ≡ partner_free f s p k whole
  unfolding partner_free partner_by row_by
  partner_free_is line x some el ex = ap (λ (y : Free). y.all) ex ∙ rw (ne_eqb k 0 some, el)

-- ---- marks

module _ (f s : List ℕ) (h : Shape) (k : ℕ) where
  pub mark_absent : (r : Mark) → h.marks.count ≡ 0 → r ≡ no_mark → r ≡ mark_in f s h k
  unfolding mark_in
  mark_absent r z er = er ∙ rw (eq-eqb h.marks.count 0 z)

  module _ (line a : ℕ) (some : h.marks.count ≡ 0 → ⊥) (el : line ≡ line_of s h.implementation k) (ea : a ≡ get_or (drop line f) 1 0) where
    internal_is : internal_b (row_by f s h.implementation k) ≡ eqb a 0
    unfolding row_by
    internal_is = rw (ea, el)

    pub mark_visible : (r : Mark) → (a ≡ 0 → ⊥) → r ≡ no_mark → r ≡ mark_in f s h k
    unfolding mark_in
    mark_visible r seen er = er ∙ rw (ne_eqb h.marks.count 0 some, internal_is, ne_eqb a 0 seen)

    pub mark_internal : (r : Mark) → a ≡ 0 → r ≡ mark_there f s h k → r ≡ mark_in f s h k
    unfolding mark_in
    mark_internal r z er = er ∙ rw (ne_eqb h.marks.count 0 some, internal_is, eq-eqb a 0 z)

-- it stands after the line's kind, and within the fields
module _ (f s : List ℕ) (h : Shape) (k marks place : ℕ) (em : marks ≡ get_or s h.marks.first 0) (ep : place ≡ mark_place f s h k) where
  place_is : place ≡ marks + 1 + formulas_used (internal_in f s h.implementation (k - 1)) (drop (marks + 1) f)
  unfolding mark_place after_formulas
  place_is = ep ∙ rw em

  pub mark_there_is : (x : Found) → x ≡ found_f place (read_f 32 (drop place f)) → record { at = place - marks; free = x.free } ≡ mark_there f s h k
  unfolding mark_there
  mark_there_is x ex = rw (ex, ep, em)

  pub place_after : marks ≤ place
  place_after = let e = place_is in omega arith

  pub place_near : length f ≡ 4096 → Fits w16 (place - marks)
  place_near l =
      let e = place_is in
      let n : ℕ = internal_in f s h.implementation (k - 1) in
      record { fits = omega (arith, formulas_within n (drop (marks + 1) f), length-drop (marks + 1) f) }

-- ---- the plan of a row

pub row_plan_is : (f s : List ℕ) (p o : Process) (whole : Bool) (m : Mark) (k line a z j n l : ℕ) (x : Free) (c : Bool) → line ≡ line_of s p k → a ≡ get_or (drop line f) 1 0
    → z ≡ get_or (drop line f) 2 0 → j ≡ row_with f s o a → x ≡ frees_of whole (row_of p.parameters.count (drop line f)) → c ≡ partner_free f s o j whole
    → n ≡ looks_of ((x.all && c) && m.free) z → l ≡ front_of f (line + 3) 32
    → record { partner = j; looks = n; internal = eqb a 0; free = x.condition; front = l; mark = m } ≡ row_plan_of f s p o whole m k
unfolding row_plan_of row_by
row_plan_is f s p o whole m k line a z j n l x c el ea ez ej ex ec en ew = rw (en, ex, ec, ej, ea, ez, ew, el)

module _ (f s : List ℕ) (p o : Process) (whole : Bool) (m : Mark) (k : ℕ) where
  pub row_plan_there : (r : RowPlan) → k ≤ p.rows.count → r ≡ row_plan_of f s p o whole m k → r ≡ row_plan_in f s p o whole m k
  unfolding row_plan_in
  row_plan_there r l er = er ∙ rw (le-leb k p.rows.count l)

  pub row_plan_past : p.rows.count < k → no_row_plan ≡ row_plan_in f s p o whole m k
  unfolding row_plan_in
  row_plan_past l = rw (lt-leb k p.rows.count l)

module _ (f s : List ℕ) (h : Shape) (i : ℕ) (r : RowPlan) where
  pub of_implementation : (m : Mark) → i < 32 → m ≡ mark_in f s h (i + 1) → r ≡ row_plan_in f s h.implementation h.specification true m (i + 1) → r ≡ row_plan_for f s h i
  unfolding row_plan_for
  of_implementation m l em er = er ∙ rw (lt-ltb i 32 l, em)

  pub of_specification : (m : Mark) → 32 ≤ i → m ≡ no_mark → r ≡ row_plan_in f s h.specification h.implementation false m (i - 32 + 1) → r ≡ row_plan_for f s h i
  unfolding row_plan_for
  of_specification m l em er = er ∙ rw (le-ltb i 32 l, em)

-- ---- all of them, one after the other

before_next : (i n : ℕ) → ltb i n ≡ leb (i + 1) n
before_next i n = go (dec_lt i n)
  where
    go : Dec (i < n) → ltb i n ≡ leb (i + 1) n
    go (yes l) = lt-ltb i n l ∙ sym (le-leb (i + 1) n (omega arith))
    go (no l) = le-ltb i n (omega arith) ∙ sym (lt-leb (i + 1) n (omega arith))

module _ (h : Shape) (i : ℕ) where
  pub there_first : i < 32 → ltb i h.implementation.rows.count ≡ there_in h i
  unfolding there_in
  there_first l = rw (lt-ltb i 32 l) (before_next i h.implementation.rows.count)

  pub there_second : 32 ≤ i → ltb (i - 32) h.specification.rows.count ≡ there_in h i
  unfolding there_in
  there_second l = rw (le-ltb i 32 l) (before_next (i - 32) h.specification.rows.count)

-- where there is no row, its numbers are 0
module _ (f s : List ℕ) (h : Shape) (i : ℕ) (b : Bool) (eb : b ≡ there_in h i) (none : not b ≡ true) where
  no_plan : row_plan_for f s h i ≡ no_row_plan
  unfolding there_in row_plan_for row_plan_in
  no_plan = go (ltb i 32) (sym eb ∙ not-true b none)
    where
      go : (c : Bool) → cond c (leb (i + 1) h.implementation.rows.count) (leb (i - 32 + 1) h.specification.rows.count) ≡ false
          → cond c (row_plan_in f s h.implementation h.specification true (mark_in f s h (i + 1)) (i + 1))
          (row_plan_in f s h.specification h.implementation false no_mark (i - 32 + 1)) ≡ no_row_plan
      go true e = rw e
      go false e = rw e

  pub no_risk : 0 ≡ risk_for f s h i
  unfolding there_in risk_for
  no_risk = go (ltb i 32) (sym eb ∙ not-true b none)
    where
      go : (c : Bool) → cond c (leb (i + 1) h.implementation.rows.count) (leb (i - 32 + 1) h.specification.rows.count) ≡ false
          → 0 ≡ cond c (cond (leb (i + 1) h.implementation.rows.count) (impl_risk f s h i) 0) (cond (leb (i - 32 + 1) h.specification.rows.count) (spec_risk f s h (i - 32)) 0)
      go true e = rw e
      go false e = rw e

  pub put_none : (w : List ℕ) → i < 64 → Blank w i → w ≡ stored w i (row_plan_for f s h i) (risk_for f s h i)
  put_none w l blank = stored_none w i l blank ∙ rw (no_plan, ← no_risk)

module _ (f s : List ℕ) (h : Shape) where
  abbrev risk : ℕ → ℕ
  risk = risk_for f s h

  -- no risk among those from the i-th on
  unfoldable pub sure_left : ℕ → Bool
  sure_left i = all_in_range (λ j. eqb (risk j) 0) (64 - i) i

  unfoldable pub plan_left : List ℕ → ℕ → List ℕ
  plan_left w i = numbers_left (row_plan_for f s h) risk (kinds_risk f s h) (unsure (sure_in f s h)) w i

  pub plan_begin : plan_left (replicate 387 0) 0 ≡ plan_in f s h
  unfolding plan_left plan_in
  plan_begin = numbers_begin (row_plan_for f s h) risk (kinds_risk f s h) (unsure (sure_in f s h))

  pub sure_begin : true && sure_left 0 ≡ sure_left 0
  sure_begin = refl

  pub put_is : (w : List ℕ) (i at x y : ℕ) (e : RowPlan) (z : List ℕ) → at ≡ 4 * i → e ≡ row_plan_for f s h i → x ≡ packed_of e → y ≡ risk_for f s h i
      → z ≡ risk_stored (set (set (set (set w at x) (at + 1) e.looks) (at + 2) e.front) (at + 3) e.mark.at) i y
      → z ≡ stored w i (row_plan_for f s h i) (risk_for f s h i)
  put_is w i at x y e z ea ee ex ey ez = ez ∙ rw (ex, ee, ey, ea)

  -- where the mark of a row stands
  pub place_planned : (i p : ℕ) (e : RowPlan) → e ≡ row_plan_for f s h i → p ≡ place_from s h e.mark.at → p ≡ place_from s h (row_plan_for f s h i).mark.at
  place_planned i p e ee ep = ep ∙ ap (λ (x : RowPlan). place_from s h x.mark.at) ee

  abbrev turned : List ℕ → ℕ → List ℕ
  turned w i = stored w i (row_plan_for f s h i) (risk_for f s h i)

  module _ (w : List ℕ) (i : ℕ) (x : List ℕ) (ex : x ≡ turned w i) where
    pub length_turn : length w ≡ 387 → length x ≡ 387
    length_turn e = rw ex (stored_length w i (row_plan_for f s h i) (risk_for f s h i) e)

    pub plan_blank : i < 64 → Blank w i → Blank x (i + 1)
    plan_blank l b = rw ex (blank_turn w i (row_plan_for f s h i) (risk_for f s h i) l b)

    pub plan_turn : i < 64 → plan_left w i ≡ plan_in f s h → plan_left x (i + 1) ≡ plan_in f s h
    unfolding plan_left
    plan_turn l inv = rw ex (numbers_turn (row_plan_for f s h) risk (kinds_risk f s h) (unsure (sure_in f s h)) w i l) ∙ inv

  pub sure_turn : (b : Bool) (i y : ℕ) → i < 64 → y ≡ risk_for f s h i → b && sure_left i ≡ sure_left 0 → (b && eqb y 0) && sure_left (i + 1) ≡ sure_left 0
  unfolding sure_left all_in_range
  sure_turn b i y l ey inv = and_assoc b (eqb y 0) (sure_left (i + 1)) ∙ ap (λ c. b && c) (sym one) ∙ inv
    where
      one : sure_left i ≡ eqb y 0 && sure_left (i + 1)
      one = let n : 64 - i ≡ suc (64 - (i + 1)) = omega arith in rw (n, ey, add-one i)

  pub plan_end : (w : List ℕ) (i y z : ℕ) (b : Bool) (x : List ℕ) → 64 ≤ i → i ≤ 64 → y ≡ kinds_risk f s h → z ≡ from_bool (not (b && eqb y 0)) → b && sure_left i ≡ sure_left 0
      → plan_left w i ≡ plan_in f s h → x ≡ risk_stored w 64 y → set x 386 z ≡ plan_in f s h
  unfolding plan_left sure_left sure_in all_in_range
  plan_end w i y z b x l u ey ez sure inv ex = rw (ex, ey, flag_is) (numbers_end (row_plan_for f s h) risk (kinds_risk f s h) (unsure (sure_in f s h)) w i l u) ∙ inv
    where
      none_left : b && sure_left i ≡ b
      none_left = let e : 64 - i ≡ 0 = omega arith in rw e (and-true b)

      go : (c : Bool) → from_bool (not c) ≡ unsure c
      go true = refl
      go false = refl

      flag_is : z ≡ unsure (sure_in f s h)
      flag_is = ez ∙ go (b && eqb y 0) ∙ ap (λ c. unsure (c && eqb y 0)) (sym none_left ∙ sure) ∙ ap (λ k. unsure (sure_left 0 && eqb k 0)) ey

-- there are fewer rows than that
partner_below : (f s : List ℕ) (p : Process) (a : ℕ) → row_with f s p a ≤ p.rows.count
unfolding row_with
partner_below f s p a = go (find (process_in f s p).rows a 1)
  where
    go : finds.Found (process_in f s p).rows a 1 ⊎ Missing (process_in f s p).rows a 1 → row_number (process_in f s p) a ≤ p.rows.count
    go (inl g) =
        let at = found_at (process_in f s p) a g in
        let below = is_row_below g.is_row in
        let n = rows_count f s p in
        omega arith
    go (inr m) = let z = m.number in omega arith

partner_in : (f s : List ℕ) (p o : Process) (whole : Bool) (m : Mark) (k : ℕ) → o.rows.count ≤ 32 → (row_plan_in f s p o whole m k).partner < 64
unfolding row_plan_in row_plan_of
partner_in f s p o whole m k few = go (leb k p.rows.count)
  where
    go : (b : Bool) → (cond b (row_plan_of f s p o whole m k) no_row_plan).partner < 64
    go true = let l = partner_below f s o (row_by f s p k).action in omega arith
    go false = omega arith

module _ (f s : List ℕ) (h : Shape) (fits : ShapeFits h) where
  partner_small : (i : ℕ) → (row_plan_for f s h i).partner < 64
  unfolding row_plan_for
  partner_small i = go (ltb i 32)
    where
      go : (b : Bool) → (cond b (row_plan_in f s h.implementation h.specification true (mark_in f s h (i + 1)) (i + 1))
          (row_plan_in f s h.specification h.implementation false no_mark (i - 32 + 1))).partner < 64
      go true = partner_in f s h.implementation h.specification true (mark_in f s h (i + 1)) (i + 1) fits.specification.rows
      go false = partner_in f s h.specification h.implementation false no_mark (i - 32 + 1) fits.implementation.rows

  -- what stands behind the rows' plans
  abbrev behind : List ℕ
  behind = risks_from (risk_for f s h) 64 0 ++ (kinds_risk f s h % 65536 ∷ kinds_risk f s h / 65536 ∷ unsure (sure_in f s h) ∷ [])

  -- of a row that is there
  pub impl_row_plan : (i : ℕ) → i < 32 → i < h.implementation.rows.count → row_plan_at (plan_in f s h) i ≡ row_plan_of f s h.implementation h.specification true (mark_in f s h (i + 1)) (i + 1)
  unfolding plan_in row_plan_for row_plan_in
  impl_row_plan i l u = let z : 0 + i ≡ i = omega arith in numbers_read (row_plan_for f s h) partner_small behind 64 0 i (omega arith) ∙ rw (z, lt-ltb i 32 l, le-leb (i + 1) h.implementation.rows.count (omega arith))

  pub spec_row_plan : (i : ℕ) → i < 32 → i < h.specification.rows.count → row_plan_at (plan_in f s h) (32 + i) ≡ row_plan_of f s h.specification h.implementation false no_mark (i + 1)
  unfolding plan_in row_plan_for row_plan_in
  spec_row_plan i l u =
      let z : 0 + (32 + i) ≡ 32 + i = omega arith in
      let e : 32 + i - 32 ≡ i = omega arith in
      numbers_read (row_plan_for f s h) partner_small behind 64 0 (32 + i) (omega arith) ∙ rw (z, le-ltb (32 + i) 32 (omega arith), e, le-leb (i + 1) h.specification.rows.count (omega arith))

-- ---- a risk stored

pub risk_put : (w : List ℕ) (i at r x y : ℕ) → at ≡ 256 + 2 * i → x ≡ r % 65536 → y ≡ r / 65536 → set (set w at x) (at + 1) y ≡ risk_stored w i r
risk_put w i at r x y ea ex ey = rw (ea, ex, ey)
