-- What C is told of a row of either process, at a state and for a sum value: its condition, its mark, its data, its next values.
use Rattle.std.specs.Prelude.{ℕ, ◌≤◌, true, ◌&&◌, cond, List, ◌∷◌, eqb, ltb, leb, length, replicate}
use Rattle.terms.specs.Tree.{Formula, const}
use Rattle.criteria.specs.Design.{Design, Process, Row, State}
use Rattle.criteria.specs.Rows.{row_at, mark_of}
use Rattle.design.specs.declared.Process as lines
use Rattle.design.specs.declared.Shape.{Shape}
use Rattle.told_terms.specs.Terms.{value_told, formula_told, values_told}

abbrev pub process_of : Design → ℕ → Process
process_of d side = cond (eqb side 0) d.impl d.spec

-- a row beside what is told of its mark
abbrev pub line_told : Row → ℕ → State → ℕ → List ℕ
line_told r mark s e = formula_told r.condition s e ∷ mark ∷ value_told r.carries s e ∷ values_told r.next s e

-- the mark of row k: an internal row of the implementation may have one
abbrev pub mark_for : Design → ℕ → ℕ → Formula
mark_for d side k = cond (eqb side 0 && eqb (row_at d.impl.rows k).action 0) (mark_of d k) (const true)

-- row k, counted from 1; 0 in every place if there is none
unfoldable pub told_row : Design → ℕ → ℕ → State → ℕ → List ℕ
told_row d side k s e =
    let rows : List Row = (process_of d side).rows in
    cond (ltb 0 k && leb k (length rows)) (line_told (row_at rows k) (formula_told (mark_for d side k) s e) s e) (replicate 11 0)

-- ---- the process of a side by its lines, and that it has a row k

abbrev pub side_of : Shape → ℕ → lines.Process
side_of h side = cond (eqb side 0) h.implementation h.specification

pub record RowThere (h : Shape) (side k : ℕ) : Type 0 where
  pub first : 1 ≤ k
  pub last : k ≤ (side_of h side).rows.count
