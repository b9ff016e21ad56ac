-- What the functions return, as specs/Tenth says it, and the turns of the loop over the rows.
use mathlib.Core.Path.{◌≡◌, sym, ◌∙◌}
use mathlib.Core.Bool.{Bool, true, false, not}
use mathlib.Core.List.{List}
use Prim.Native.Nat.{ℕ, ◌+◌, ◌-◌, ◌≤◌, ◌<◌}
use borrow.Author.Tests.{not-true, not-false}
use lib.Dec.{eqb}
use lib.ListN.{get_or, drop}
use Rattle.foundation.specs.First.{all_in_range}
use Rattle.foundation.proofs.All.{all_begin, all_turn, all_fail, all_end}
use Rattle.divisors.specs.Divisors.{safe_at}
use Rattle.design.specs.declared.Process.{Process}
use Rattle.design.specs.declared.Shape.{Shape}
use Rattle.marks.specs.Marks.{place_from}
use Rattle.defined.specs.Defined.{has_invariant_in, has_mapping_in, has_measure_in, row_has_in}
use Rattle.steps.specs.Arrays.{line_of, invariant_in, mapped_in}
use Rattle.row_plan.specs.RowPlan.{row_plan_at, risk_at, unsure_at}
use Rattle.row_plan.specs.declared.RowPlan.{RowPlan}
use Rattle.tenth.specs.Tenth.{sure_by, row_by, rows_by, mapping_by, invariant_by, others_by, apart_as_read, asked_by, tenth_by}

pub sure_is : (p : List ℕ) (r : ℕ) → r ≡ unsure_at p → eqb r 0 ≡ sure_by p
unfolding sure_by
sure_is p r er = rw er

-- ---- rows

module _ (f s p v : List ℕ) (h : Shape) (q : Process) (n k r : ℕ) (b : Bool) (er : r ≡ risk_at p n) (eb : b ≡ safe_at r v) where
  pub row_safe : b ≡ true → true ≡ row_by f s h q p n k v
  unfolding row_by
  row_safe y = rw (← er, ← eb, y)

  pub row_asked : (line : ℕ) (e : RowPlan) (at span : ℕ) (x : Bool) → b ≡ false → line ≡ line_of s q k → e ≡ row_plan_at p n → at ≡ place_from s h e.mark.at
      → span ≡ get_or (drop line f) 2 0 → x ≡ row_has_in f line q.parameters.count at span v → x ≡ row_by f s h q p n k v
  unfolding row_by
  row_asked line e at span x y el ee ea es ex = ex ∙ rw (es, ea, ee, el, ← er, ← eb, y)

module _ (f s p v : List ℕ) (h : Shape) (q : Process) (from : ℕ) where
  abbrev asked : ℕ → Bool
  asked i = row_by f s h q p (from + i) (i + 1) v

  unfoldable pub rows_left : ℕ → Bool
  rows_left i = all_in_range asked (q.rows.count - i) i

  pub rows_begin : rows_left 0 ≡ rows_by f s h q p from v
  unfolding rows_left rows_by
  rows_begin = all_begin asked q.rows.count

  module _ (i : ℕ) (b : Bool) (l : i < q.rows.count) (eb : b ≡ row_by f s h q p (from + i) (i + 1) v) (inv : rows_left i ≡ rows_by f s h q p from v) where
    pub rows_fail : not b ≡ true → false ≡ rows_by f s h q p from v
    unfolding rows_left
    rows_fail y = sym (all_fail asked q.rows.count i l (sym eb ∙ not-true b y)) ∙ inv

    pub rows_turn : not b ≡ false → rows_left (i + 1) ≡ rows_by f s h q p from v
    unfolding rows_left
    rows_turn y = sym (all_turn asked q.rows.count i l (sym eb ∙ not-false b y)) ∙ inv

  pub rows_end : (i : ℕ) → q.rows.count ≤ i → rows_left i ≡ rows_by f s h q p from v → true ≡ rows_by f s h q p from v
  unfolding rows_left
  rows_end i l inv = sym (all_end asked q.rows.count i l) ∙ inv

-- ---- the state

module _ (f s v : List ℕ) (h : Shape) (safe : Bool) where
  pub mapping_safe : safe ≡ true → true ≡ mapping_by f s h safe v
  unfolding mapping_by
  mapping_safe y = rw y

  pub mapping_asked : (r : Bool) → safe ≡ false → r ≡ has_mapping_in f s h v → r ≡ mapping_by f s h safe v
  unfolding mapping_by
  mapping_asked r y er = er ∙ rw y

  pub invariant_safe : safe ≡ true → true ≡ invariant_by f s h safe v
  unfolding invariant_by
  invariant_safe y = rw y

  pub invariant_asked : (r : Bool) → safe ≡ false → r ≡ has_invariant_in f s h v → r ≡ invariant_by f s h safe v
  unfolding invariant_by
  invariant_asked r y er = er ∙ rw y

module _ (f s p v : List ℕ) (h : Shape) (safe m : Bool) (em : m ≡ mapping_by f s h safe v) where
  pub others_mapping : not m ≡ true → false ≡ others_by f s h p safe v
  unfolding others_by
  others_mapping y = rw (← em, not-true m y)

  module _ (y : not m ≡ false) (i : Bool) (ei : i ≡ rows_by f s h h.implementation p 0 v) where
    pub others_impl : not i ≡ true → false ≡ others_by f s h p safe v
    unfolding others_by
    others_impl z = rw (← em, not-false m y, ← ei, not-true i z)

    pub others_spec : (t : List ℕ) (r : Bool) → not i ≡ false → t ≡ mapped_in f s h v → r ≡ rows_by f s h h.specification p 32 t → r ≡ others_by f s h p safe v
    unfolding others_by
    others_spec t r z et er = er ∙ rw (← em, not-false m y, ← ei, not-false i z, et)

module _ (f s p v : List ℕ) (h : Shape) (b : Bool) (eb : b ≡ sure_by p) where
  pub apart_sure : b ≡ true → true ≡ apart_as_read f s h p v
  unfolding apart_as_read
  apart_sure y = rw (← eb, y)

  module _ (n : b ≡ false) (risk : ℕ) (safe i : Bool) (er : risk ≡ risk_at p 64) (es : safe ≡ safe_at risk v) (ei : i ≡ invariant_by f s h safe v) where
    pub apart_lacks : not i ≡ true → false ≡ apart_as_read f s h p v
    unfolding apart_as_read
    apart_lacks y = rw (← eb, n, ← er, ← es, ← ei, not-true i y)

    module _ (y : not i ≡ false) (c : Bool) (ec : c ≡ invariant_in f s h v) where
      pub apart_outside : not c ≡ true → true ≡ apart_as_read f s h p v
      unfolding apart_as_read
      apart_outside z = rw (← eb, n, ← er, ← es, ← ei, not-false i y, ← ec, not-true c z)

      pub apart_others : (r : Bool) → not c ≡ false → r ≡ others_by f s h p safe v → r ≡ apart_as_read f s h p v
      unfolding apart_as_read
      apart_others r z eo = eo ∙ rw (← eb, n, ← er, ← es, ← ei, not-false i y, ← ec, not-false c z)

module _ (f s p v : List ℕ) (h : Shape) (a : Bool) (ea : a ≡ apart_as_read f s h p v) where
  pub asked_apart : not a ≡ true → false ≡ asked_by f s h p v
  unfolding asked_by
  asked_apart y = rw (← ea, not-true a y)

  module _ (y : not a ≡ false) (risk : ℕ) (safe : Bool) (er : risk ≡ risk_at p 64) (es : safe ≡ safe_at risk v) where
    pub asked_safe : safe ≡ true → true ≡ asked_by f s h p v
    unfolding asked_by
    asked_safe z = rw (← ea, not-false a y, ← er, ← es, z)

    module _ (z : safe ≡ false) (c : Bool) (ec : c ≡ invariant_in f s h v) where
      pub asked_outside : not c ≡ true → true ≡ asked_by f s h p v
      unfolding asked_by
      asked_outside w = rw (← ea, not-false a y, ← er, ← es, z, ← ec, not-true c w)

      pub asked_measure : (r : Bool) → not c ≡ false → r ≡ has_measure_in f s h v → r ≡ asked_by f s h p v
      unfolding asked_by
      asked_measure r w em = em ∙ rw (← ea, not-false a y, ← er, ← es, z, ← ec, not-false c w)

module _ (f s p v : List ℕ) (h : Shape) (b : Bool) (eb : b ≡ sure_by p) where
  pub tenth_sure : b ≡ true → true ≡ tenth_by f s h p v
  unfolding tenth_by
  tenth_sure y = rw (← eb, y)

  pub tenth_asked : (r : Bool) → b ≡ false → r ≡ asked_by f s h p v → r ≡ tenth_by f s h p v
  unfolding tenth_by
  tenth_asked r y er = er ∙ rw (← eb, y)
