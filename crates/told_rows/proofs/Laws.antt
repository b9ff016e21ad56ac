-- What the functions return is what specs/Rows says.
use mathlib.Core.Path.{◌≡◌, refl, sym, ◌∙◌, ap, subst}
use mathlib.Core.Bool.{Bool, true, false, ◌&&◌, cond}
use mathlib.Core.List.{List, [], ◌∷◌}
use Prim.Native.Nat.{ℕ, ◌+◌, ◌≤◌, ◌<◌}
use native.Mathlib.Omega.{arith}
use borrow.Author.Tests.{eq-eqb, ne_eqb, lt-ltb, lt-leb, le-leb}
use lib.Dec.{eqb, ltb}
use lib.ListN.{length, get_or, drop, replicate}
use Rattle.terms.specs.Meaning.{meant_f}
use Rattle.terms.specs.Tree.{Formula, const}
use Rattle.terms.specs.Read.{read_v, read_f}
use Rattle.terms.proofs.Read.{place}
use Rattle.has_value.specs.Answer.{answer_v, answer_f}
use Rattle.has_value.specs.declared.Valued.{Valued}
use Rattle.has_value.specs.declared.Held.{Held}
use Rattle.criteria.specs.Design.{Design, Row}
use Rattle.criteria.specs.Rows.{row_at, mark_of}
use Rattle.design.specs.Line.{values_in, row_of}
use Rattle.design.specs.Loaded.{process_in, design_at}
use Rattle.design.specs.declared.Process.{Process}
use Rattle.design.specs.declared.Shape.{Shape}
use Rattle.marks.specs.Marks.{mark_place}
use Rattle.marks.proofs.Held.{mark_none, mark_held}
use Rattle.steps.specs.Arrays.{first_values, line_of}
use Rattle.steps.proofs.Arrays.{row_there}
use Rattle.steps.proofs.States.{rows_count}
use Rattle.told_terms.specs.Terms.{number_of, truth_of, formula_told, values_told}
use Rattle.told_terms.proofs.Laws.{value_told_lem, formula_told_lem, eight}
use Rattle.told_rows.specs.Rows.{line_told, told_row, process_of, mark_for, side_of, RowThere}

pub row_places : (a b c : ℕ) (w : List ℕ) → length w ≡ 8
    → a ∷ b ∷ c ∷ get_or w 0 0 ∷ get_or w 1 0 ∷ get_or w 2 0 ∷ get_or w 3 0 ∷ get_or w 4 0 ∷ get_or w 5 0 ∷ get_or w 6 0 ∷ get_or w 7 0 ∷ [] ≡ a ∷ b ∷ c ∷ w
unfolding first_values
row_places a b c w e = ap (λ (l : List ℕ). a ∷ b ∷ c ∷ l) (eight w e)

-- ---- a row

module _ (h : Shape) (side : ℕ) where
  pub board_side : side ≡ 0 → h.implementation ≡ side_of h side
  board_side z = rw (eq-eqb side 0 z)

  pub our_side : (side ≡ 0 → ⊥) → h.specification ≡ side_of h side
  our_side z = rw (ne_eqb side 0 z)

side_rows : (f s : List ℕ) (h : Shape) (side : ℕ) → (process_of (design_at f s h) side).rows ≡ (process_in f s (side_of h side)).rows
side_rows f s h side = go (eqb side 0)
  where
    go : (b : Bool) → (cond b (process_in f s h.implementation) (process_in f s h.specification)).rows ≡ (process_in f s (cond b h.implementation h.specification)).rows
    go true = refl
    go false = refl

true_told : (v : List ℕ) (e : ℕ) → 1 ≡ formula_told (const true) v e
unfolding formula_told meant_f
true_told v e = refl

module _ (f s v : List ℕ) (h : Shape) (side k e : ℕ) where
  abbrev d : Design
  d = design_at f s h

  pub mark_ours : (side ≡ 0 → ⊥) → 1 ≡ formula_told (mark_for d side k) v e
  mark_ours z = rw (ne_eqb side 0 z) (true_told v e)

  module _ (z : side ≡ 0) (there : RowThere h side k) (line a : ℕ) (el : line ≡ line_of s h.implementation k) (ea : a ≡ get_or (drop line f) 1 0) where
    in_rows : k ≤ h.implementation.rows.count
    in_rows = subst (λ (p : Process). k ≤ p.rows.count) (sym (board_side h side z)) there.last

    action_is : a ≡ (row_at d.impl.rows k).action
    unfolding line_of
    action_is = let q = there.first in ea ∙ ap (λ (x : ℕ). get_or (drop x f) 1 0) el ∙ ap (λ (r : Row). r.action) (sym (row_there f s h.implementation k (λ n. omega arith) in_rows))

    pub mark_visible : (a ≡ 0 → ⊥) → 1 ≡ formula_told (mark_for d side k) v e
    mark_visible n = rw (eq-eqb side 0 z, ne_eqb (row_at d.impl.rows k).action 0 (λ y. n (action_is ∙ y))) (true_told v e)

    module _ (internal : a ≡ 0) where
      its_own : mark_for d side k ≡ mark_of d k
      its_own = rw (eq-eqb side 0 z, eq-eqb (row_at d.impl.rows k).action 0 (sym action_is ∙ internal))

      pub mark_no_line : h.marks.count ≡ 0 → 1 ≡ formula_told (mark_for d side k) v e
      mark_no_line n = true_told v e ∙ ap (λ (g : Formula). formula_told g v e) (sym (its_own ∙ mark_none f s h k n))

      pub mark_there_lem : (place r : ℕ) → (h.marks.count ≡ 0 → ⊥) → place ≡ mark_place f s h k → r ≡ formula_told (read_f 32 (drop place f)).tree v e
          → r ≡ formula_told (mark_for d side k) v e
      mark_there_lem place r n ep er =
          let q = there.first in
          er ∙ rw ep (ap (λ (g : Formula). formula_told g v e) (sym (its_own ∙ mark_held f s h k (λ y. omega arith) in_rows (sym action_is ∙ internal) n)))

pub line_told_lem : (f v : List ℕ) (line n mark e : ℕ) (x : Held) (y : Valued) (a b : ℕ) (w r : List ℕ)
    → x ≡ answer_f (line + 3) v e (read_f 32 (drop (line + 3) f)) → y ≡ answer_v x.next v e (read_v 32 (drop x.next f))
    → w ≡ values_told (values_in n (drop y.next f)) v e → a ≡ truth_of x → b ≡ number_of y → r ≡ a ∷ mark ∷ b ∷ w
    → r ≡ line_told (row_of n (drop line f)) mark v e
line_told_lem f v line n mark e x y a b w r ex ey ew ea eb er =
    er ∙ rw (formula_told_lem f v (line + 3) e x a ex ea, value_told_lem f v x.next e y b ey eb, ew, ey, ex, place f line 3 refl, place f (line + 3) _ refl, place f (line + 3 + _) _ refl)

module _ (f s v : List ℕ) (h : Shape) (side k e : ℕ) (p : Process) (ep : p ≡ side_of h side) where
  abbrev rows : List Row
  rows = (process_of (design_at f s h) side).rows

  rows_are : rows ≡ (process_in f s p).rows
  rows_are = side_rows f s h side ∙ ap (λ (q : Process). (process_in f s q).rows) (sym ep)

  count_is : length rows ≡ p.rows.count
  count_is = ap length rows_are ∙ rows_count f s p

  pub no_row : k ≡ 0 → replicate 11 0 ≡ told_row (design_at f s h) side k v e
  unfolding told_row
  no_row z = rw z

  and-false : (b : Bool) → replicate 11 0 ≡ cond (b && false) (line_told (row_at rows k) (formula_told (mark_for (design_at f s h) side k) v e) v e) (replicate 11 0)
  and-false true = refl
  and-false false = refl

  pub past_rows : p.rows.count < k → replicate 11 0 ≡ told_row (design_at f s h) side k v e
  unfolding told_row
  past_rows l = rw (count_is, lt-leb k p.rows.count l) (and-false (ltb 0 k))

  pub row_there_is : (k ≡ 0 → ⊥) → k ≤ p.rows.count → RowThere h side k
  row_there_is z l = record { first = omega arith; last = subst (λ (q : Process). k ≤ q.rows.count) ep l }

  pub row_is : (line mark : ℕ) (w : List ℕ) → (k ≡ 0 → ⊥) → k ≤ p.rows.count → line ≡ line_of s p k → mark ≡ formula_told (mark_for (design_at f s h) side k) v e
      → w ≡ line_told (row_of p.parameters.count (drop line f)) mark v e → w ≡ told_row (design_at f s h) side k v e
  unfolding told_row line_of
  row_is line mark w z l el em ew =
      let there : row_of p.parameters.count (drop line f) ≡ row_at rows k =
      ap (λ (x : ℕ). row_of p.parameters.count (drop x f)) el ∙ sym (row_there f s p k z l) ∙ ap (λ (rs : List Row). row_at rs k) (sym rows_are) in
      ew ∙ ap (λ (r : Row). line_told r mark v e) there ∙ rw (em, lt-ltb 0 k (omega arith), count_is, le-leb k p.rows.count l)
