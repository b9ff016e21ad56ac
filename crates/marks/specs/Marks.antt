-- Marks as the code finds them: f the fields, s the starts of lines, h the shape; rows count from 1.
use Rattle.std.specs.Prelude.{Bool, true, ◌||◌, cond, List, ℕ, ◌+◌, ◌-◌, eqb, get_or, drop}
use Rattle.terms.specs.Tree.{eval_f, has_f}
use Rattle.terms.specs.Read.{read_f}
use Rattle.criteria.specs.Step.{internal_rows}
use Rattle.design.specs.Line.{row_of, formulas_used}
use Rattle.design.specs.Loaded.{line_from, each_line_of}
use Rattle.design.specs.declared.Process.{Process}
use Rattle.design.specs.declared.Shape.{Shape}

-- how many of the first n rows of a process are internal
unfoldable pub internal_in : List ℕ → List ℕ → Process → ℕ → ℕ
internal_in fields starts p n = internal_rows (each_line_of (row_of p.parameters.count) (line_from fields starts) n p.rows.first)

-- the place after n formulas from a place on
unfoldable pub after_formulas : List ℕ → ℕ → ℕ → ℕ
after_formulas f at n = at + formulas_used n (drop at f)

-- that of the mark of row k, if it is internal: after the line's kind and the marks of the internal rows before it
unfoldable pub mark_place : List ℕ → List ℕ → Shape → ℕ → ℕ
mark_place f s h k = after_formulas f (get_or s h.marks.first 0 + 1) (internal_in f s h.implementation (k - 1))

-- whether it holds; without a line of marks each does
unfoldable pub marked_in : List ℕ → List ℕ → Shape → ℕ → List ℕ → ℕ → Bool
marked_in f s h k v e = cond (eqb h.marks.count 0) true (eval_f (read_f 32 (drop (mark_place f s h k) f)).tree v e)

-- ---- by its place in the line of marks, 0 for none

-- where it stands among the fields
abbrev pub place_from : List ℕ → Shape → ℕ → ℕ
place_from s h at = cond (eqb at 0) 0 (get_or s h.marks.first 0 + at)

-- whether it holds; without one every step is marked
unfoldable pub mark_holds : List ℕ → ℕ → List ℕ → ℕ → Bool
mark_holds f place v e = eqb place 0 || eval_f (read_f 32 (drop place f)).tree v e

-- whether it has a value
unfoldable pub mark_has_in : List ℕ → ℕ → List ℕ → ℕ → Bool
mark_has_in f place v e = eqb place 0 || has_f (read_f 32 (drop place f)).tree v e
