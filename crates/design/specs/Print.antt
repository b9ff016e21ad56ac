-- The lines of a design, by their fields: the other way round than Lines. What is printed says the design again (proofs/Printed), and
-- `text_of` of the crate reader makes a text of lines.
use Rattle.std.specs.Prelude.{ℕ, ◌≤◌, ◌≡◌, Bool, true, false, List, [], ◌∷◌, ◌++◌, map, length}
use Rattle.limits.specs.Limits.{max_depth}
use Rattle.foundation.specs.Nth.{EachIs}
use Rattle.terms.specs.Tree.{Value, Formula, ok_v, ok_f}
use Rattle.terms.specs.Depth.{depth_v, depth_f}
use Rattle.terms.specs.Print.{print_v, print_f}
use Rattle.criteria.specs.Design.{Design, Parameter, Row}
use Rattle.criteria.specs.Step.{internal_rows}

-- values one after the other
abbrev pub print_values : List Value → List ℕ
print_values [] = []
print_values (v ∷ vs) = print_v v ++ print_values vs

-- formulas
abbrev pub print_formulas : List Formula → List ℕ
print_formulas [] = []
print_formulas (f ∷ fs) = print_f f ++ print_formulas fs

-- "size, initial value"
abbrev pub parameter_line : ℕ → Parameter → List ℕ
parameter_line k p = k ∷ p.size ∷ p.initial ∷ []

-- "action, span, condition, data, one next value for each" parameter
abbrev pub row_line : ℕ → Row → List ℕ
row_line k r = k ∷ r.action ∷ r.span ∷ (print_f r.condition ++ (print_v r.carries ++ print_values r.next))

-- kinds 5 to 7, a line each
abbrev pub last_lines : Design → List (List ℕ)
last_lines d = (5 ∷ print_f d.invariant) ∷ (6 ∷ print_values d.mapping) ∷ (7 ∷ print_v d.measure) ∷ []

-- kind 8: "a formula for each internal row, in row order"
abbrev pub line_of_marks : List Formula → List ℕ
line_of_marks fs = 8 ∷ print_formulas fs

abbrev pub print_lines : Design → List (List ℕ)
print_lines d =
    map (parameter_line 1) d.impl.parameters
    ++ (map (parameter_line 2) d.spec.parameters
    ++ (map (row_line 3) d.impl.rows
    ++ (map (row_line 4) d.spec.rows
    ++ (last_lines d ++ map line_of_marks d.marks))))

-- ---- which designs can be printed: their terms are well formed, of depth at most 32, and as many as there are parameters or, of the
-- marks, internal rows

pub record ValueFits (n : ℕ) (row : Bool) (v : Value) : Type 0 where
  pub well_formed : ok_v v n row ≡ true
  pub shallow : depth_v v ≤ max_depth

pub record FormulaFits (n : ℕ) (row : Bool) (f : Formula) : Type 0 where
  pub well_formed : ok_f f n row ≡ true
  pub shallow : depth_f f ≤ max_depth

pub data ValuesFit (n : ℕ) (row : Bool) : List Value → Type 0 where
  none : ValuesFit n row []
  then_value : {v : Value} {vs : List Value} → ValueFits n row v → ValuesFit n row vs → ValuesFit n row (v ∷ vs)

pub record RowFits (n : ℕ) (r : Row) : Type 0 where
  pub condition : FormulaFits n true r.condition
  pub carries : ValueFits n true r.carries
  pub next : ValuesFit n true r.next
  pub all_next : length r.next ≡ n

pub data RowsFit (n : ℕ) : List Row → Type 0 where
  none : RowsFit n []
  then_row : {r : Row} {rows : List Row} → RowFits n r → RowsFit n rows → RowsFit n (r ∷ rows)

pub data FormulasFit (n : ℕ) : List Formula → Type 0 where
  none : FormulasFit n []
  then_formula : {f : Formula} {fs : List Formula} → FormulaFits n true f → FormulasFit n fs → FormulasFit n (f ∷ fs)

-- i formulas for i internal rows
pub record MarksFit (n i : ℕ) (fs : List Formula) : Type 0 where
  pub formulas : FormulasFit n fs
  pub all_marks : length fs ≡ i

pub record Printable (d : Design) : Type 0 where
  pub impl_rows_lem : RowsFit (length d.impl.parameters) d.impl.rows
  pub spec_rows_lem : RowsFit (length d.spec.parameters) d.spec.rows
  pub invariant : FormulaFits (length d.impl.parameters) false d.invariant
  pub mapping : ValuesFit (length d.impl.parameters) false d.mapping
  pub all_mapped : length d.mapping ≡ length d.spec.parameters
  pub measure : ValueFits (length d.impl.parameters) false d.measure
  pub marks : EachIs d.marks (MarksFit (length d.impl.parameters) (internal_rows d.impl.rows))
