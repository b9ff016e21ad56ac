-- The mark that specs/Marks finds is that of the design in the arrays.
use mathlib.Core.Path.{◌≡◌, refl, sym, ◌∙◌, ap}
use mathlib.Core.Bool.{true}
use mathlib.Core.List.{List}
use Prim.Native.Nat.{ℕ, zero, suc, ◌+◌, ◌-◌, ◌≤◌, ◌<◌}
use native.Mathlib.Decide.{dec_lt}
use native.Mathlib.Omega.{arith}
use borrow.Author.Tests.{eq-eqb, ne_eqb}
use lib.ListN.{length, get_or, take, drop}
use Rattle.terms.specs.Tree.{Formula, const, eval_f}
use Rattle.terms.specs.Read.{read_f}
use Rattle.terms.proofs.Read.{place}
use Rattle.criteria.specs.Design.{Row}
use Rattle.criteria.specs.Step.{internal_rows}
use Rattle.criteria.specs.Rows.{row_at, mark_of}
use Rattle.criteria.proofs.Rows.{internal_below}
use Rattle.decision.specs.Tests.{marked_b}
use Rattle.design.specs.Line as line
use Rattle.design.specs.Line.{formulas_used}
use Rattle.design.specs.Loaded.{line_from, each_line_of, process_in, design_at}
use Rattle.design.specs.declared.Shape.{Shape}
use Rattle.design.proofs.Loaded.{each_length, each_take}
use Rattle.design.proofs.Marks.{formula_at}
use Rattle.marks.specs.Marks.{internal_in, after_formulas, mark_place, marked_in}

module _ (f s : List ℕ) (h : Shape) where
  abbrev rows : List Row
  rows = (process_in f s h.implementation).rows

  rows_count : length rows ≡ h.implementation.rows.count
  rows_count = each_length (line.row_of h.implementation.parameters.count) (line_from f s) h.implementation.rows.count h.implementation.rows.first

  -- as many internal rows stand before row k
  internal_held : (k : ℕ) → k ≤ h.implementation.rows.count → internal_rows (take (k - 1) rows) ≡ internal_in f s h.implementation (k - 1)
  unfolding internal_in
  internal_held k l = ap internal_rows (each_take (line.row_of h.implementation.parameters.count) (line_from f s) h.implementation.rows.count (k - 1) h.implementation.rows.first (omega arith))

  -- without a line of marks all steps are marked
  pub mark_none : (k : ℕ) → h.marks.count ≡ 0 → mark_of (design_at f s h) k ≡ const true
  unfolding each_line_of
  mark_none k z = rw z

  -- with one, the mark of an internal row is the formula at its place
  pub mark_held : (k : ℕ) → (k ≡ 0 → ⊥) → k ≤ h.implementation.rows.count → (row_at rows k).action ≡ 0 → (h.marks.count ≡ 0 → ⊥)
      → mark_of (design_at f s h) k ≡ (read_f 32 (drop (mark_place f s h k) f)).tree
  unfolding each_line_of mark_place after_formulas
  mark_held k some l z given = go h.marks.count refl
    where
      start : ℕ
      start = get_or s h.marks.first 0

      j : ℕ
      j = internal_rows (take (k - 1) rows)

      below : j < internal_rows rows
      below = internal_below rows k (omega arith) (rw rows_count l) z

      go : (c : ℕ) → h.marks.count ≡ c → mark_of (design_at f s h) k ≡ (read_f 32 (drop (mark_place f s h k) f)).tree
      go zero e = absurd (given e)
      go (suc c) e =
          rw e
          (formula_at (internal_rows rows) j (drop 1 (drop start f)) below
          ∙ rw (place f start 1 refl, place f (start + 1) (formulas_used j (drop (start + 1) f)) refl, internal_held k l))

  pub marked_held : (k : ℕ) (x : List ℕ) (e : ℕ) → (k ≡ 0 → ⊥) → k ≤ h.implementation.rows.count → (row_at rows k).action ≡ 0
      → marked_in f s h k x e ≡ marked_b (design_at f s h) k x e
  unfolding marked_in eval_f
  marked_held k x e some l z = go (dec_lt 0 h.marks.count)
    where
      go : Dec (0 < h.marks.count) → marked_in f s h k x e ≡ marked_b (design_at f s h) k x e
      go (yes c) = rw (ne_eqb h.marks.count 0 (λ q. omega arith)) (ap (λ (g : Formula). eval_f g x e) (sym (mark_held k some l z (λ q. omega arith))))
      go (no c) = let n : h.marks.count ≡ 0 = omega arith in rw (eq-eqb h.marks.count 0 n) (ap (λ (g : Formula). eval_f g x e) (sym (mark_none k n)))
