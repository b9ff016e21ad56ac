-- What is printed of a design says it again (`printed`), and the line of its marks is printed last (`marks_last`).
use Prim.Native.Nat.{ℕ, suc}
use mathlib.Core.Path.{◌≡◌, refl, sym, ap, ◌∙◌}
use mathlib.Core.Bool.{Bool, true, false, cond}
use mathlib.Core.List.{List, [], ◌∷◌, ◌++◌, map, append-nil, append_assoc}
use lib.Dec.{eqb}
use lib.ListN.{length}
use lib.Seq.{drop-append_seam}
use Rattle.terms.specs.Tree.{Value, Formula}
use Rattle.terms.specs.Print.{print_v, print_f}
use Rattle.terms.specs.Read.{leaf}
use Rattle.terms.proofs.Printing.{print_read_v, print_read_f}
use Rattle.foundation.specs.Nth.{EachIs, first, later}
use Rattle.criteria.specs.Design.{Design, Parameter, Row, with_marks}
use Rattle.criteria.specs.Step.{internal_rows}
use Rattle.design.specs.Line.{value_in, formula_in, values_in, formulas_in, parameter_of, row_of, marks_of}
use Rattle.design.specs.Lines.{kind_of, of_kind, the_line, design_of}
use Rattle.design.specs.Print.{print_values, print_formulas, parameter_line, row_line, last_lines, line_of_marks, print_lines, ValueFits, FormulaFits, ValuesFit, RowFits, RowsFit, FormulasFit, MarksFit, Printable}
use Rattle.design.specs.Print as print

-- ---- terms

module _ (n : ℕ) (row : Bool) where
  value_back : (v : Value) (rest : List ℕ) → ValueFits n row v → value_in (print_v v ++ rest) ≡ leaf v (length (print_v v))
  value_back v rest f = print_read_v n row v 32 f.well_formed f.shallow rest

  formula_back : (v : Formula) (rest : List ℕ) → FormulaFits n row v → formula_in (print_f v ++ rest) ≡ leaf v (length (print_f v))
  formula_back v rest f = print_read_f n row v 32 f.well_formed f.shallow rest

  values_back : (vs : List Value) → ValuesFit n row vs → values_in (length vs) (print_values vs) ≡ vs
  unfolding values_in
  values_back [] print.none = refl
  values_back (v ∷ vs) (print.then_value f fs) =
      rw (value_back v (print_values vs) f, drop-append_seam (print_v v) (print_values vs), values_back vs fs)

formulas_back : (n : ℕ) (fs : List Formula) → FormulasFit n fs → formulas_in (length fs) (print_formulas fs) ≡ fs
unfolding formulas_in
formulas_back n [] print.none = refl
formulas_back n (f ∷ fs) (print.then_formula g gs) =
    rw (formula_back n true f (print_formulas fs) g, drop-append_seam (print_f f) (print_formulas fs), formulas_back n fs gs)

value_alone : (n : ℕ) (v : Value) → ValueFits n false v → (value_in (print_v v)).tree ≡ v
value_alone n v f = ap (λ l. (value_in l).tree) (sym (append-nil (print_v v))) ∙ ap (λ r. r.tree) (value_back n false v [] f)

formula_alone : (n : ℕ) (v : Formula) → FormulaFits n false v → (formula_in (print_f v)).tree ≡ v
formula_alone n v f = ap (λ l. (formula_in l).tree) (sym (append-nil (print_f v))) ∙ ap (λ r. r.tree) (formula_back n false v [] f)

-- ---- rows and parameters

row_back : (k n : ℕ) (r : Row) → RowFits n r → row_of n (row_line k r) ≡ r
row_back k n r f =
    let c = r.condition in
    let x = r.carries in
    let later = print_values r.next in
    rw (formula_back n true c (print_v x ++ later) f.condition, drop-append_seam (print_f c) (print_v x ++ later), value_back n true x later f.carries, drop-append_seam (print_v x) later, ← f.all_next, values_back n true r.next f.next)

rows_back : (k n : ℕ) (rows : List Row) → RowsFit n rows → map (row_of n) (map (row_line k) rows) ≡ rows
rows_back k n [] print.none = refl
rows_back k n (r ∷ rows) (print.then_row f fs) = rw (row_back k n r f, rows_back k n rows fs)

pub marks_back : (n i : ℕ) (marks : List (List Formula)) → EachIs marks (MarksFit n i) → map (marks_of i) (map line_of_marks marks) ≡ marks
marks_back n i [] f = refl
marks_back n i (fs ∷ marks) f =
    let g = f 1 fs first in
    rw (marks_back n i marks (λ k x at. f (suc k) x (later at)), ← g.all_marks, formulas_back n fs g.formulas)

parameters_back : (k : ℕ) (ps : List Parameter) → map parameter_of (map (parameter_line k) ps) ≡ ps
parameters_back k [] = refl
parameters_back k (p ∷ ps) = ap (λ qs. p ∷ qs) (parameters_back k ps)

pub length-map : {A B : Type 0} (f : A → B) (xs : List A) → length (map f xs) ≡ length xs
length-map f [] = refl
length-map f (x ∷ xs) = ap suc (length-map f xs)

-- ---- the lines of a kind

pub of_append : (k : ℕ) (xs ys : List (List ℕ)) → of_kind k (xs ++ ys) ≡ of_kind k xs ++ of_kind k ys
unfolding of_kind
of_append k [] ys = refl
of_append k (x ∷ xs) ys = go (eqb (kind_of x) k) (of_append k xs ys)
  where
    go : (b : Bool) → of_kind k (xs ++ ys) ≡ of_kind k xs ++ of_kind k ys
        → cond b (x ∷ of_kind k (xs ++ ys)) (of_kind k (xs ++ ys)) ≡ cond b (x ∷ of_kind k xs) (of_kind k xs) ++ of_kind k ys
    go true h = ap (λ l. x ∷ l) h
    go false h = h

module _ {A : Type 0} (f : A → List ℕ) (k : ℕ) where
  of_same : ((a : A) → eqb (kind_of (f a)) k ≡ true) → (xs : List A) → of_kind k (map f xs) ≡ map f xs
  unfolding of_kind
  of_same h [] = refl
  of_same h (x ∷ xs) = rw (h x, of_same h xs)

  pub of_other : ((a : A) → eqb (kind_of (f a)) k ≡ false) → (xs : List A) → of_kind k (map f xs) ≡ []
  unfolding of_kind
  of_other h [] = refl
  of_other h (x ∷ xs) = rw (h x, of_other h xs)

module _ (d : Design) where
  abbrev ps : List Parameter
  ps = d.impl.parameters

  abbrev qs : List Parameter
  qs = d.spec.parameters

  abbrev rs : List Row
  rs = d.impl.rows

  abbrev ss : List Row
  ss = d.spec.rows

  abbrev ends : List (List ℕ)
  ends = last_lines d ++ map line_of_marks d.marks

  parts : (k : ℕ) → of_kind k (print_lines d)
      ≡ of_kind k (map (parameter_line 1) ps)
      ++ (of_kind k (map (parameter_line 2) qs)
      ++ (of_kind k (map (row_line 3) rs)
      ++ (of_kind k (map (row_line 4) ss)
      ++ (of_kind k (last_lines d)
      ++ of_kind k (map line_of_marks d.marks)))))
  parts k =
      rw (
        of_append k (map (parameter_line 1) ps) (map (parameter_line 2) qs ++ (map (row_line 3) rs ++ (map (row_line 4) ss ++ ends))),
        of_append k (map (parameter_line 2) qs) (map (row_line 3) rs ++ (map (row_line 4) ss ++ ends)),
        of_append k (map (row_line 3) rs) (map (row_line 4) ss ++ ends),
        of_append k (map (row_line 4) ss) ends,
        of_append k (last_lines d) (map line_of_marks d.marks),
      )

  pub of_1 : of_kind 1 (print_lines d) ≡ map (parameter_line 1) ps
  unfolding of_kind
  of_1 =
      rw (parts 1, of_same (parameter_line 1) 1 (λ _. refl) ps, of_other (parameter_line 2) 1 (λ _. refl) qs, of_other (row_line 3) 1 (λ _. refl) rs, of_other (row_line 4) 1 (λ _. refl) ss, of_other line_of_marks 1 (λ _. refl) d.marks)
      (append-nil (map (parameter_line 1) ps))

  of_2 : of_kind 2 (print_lines d) ≡ map (parameter_line 2) qs
  unfolding of_kind
  of_2 =
      rw (parts 2, of_other (parameter_line 1) 2 (λ _. refl) ps, of_same (parameter_line 2) 2 (λ _. refl) qs, of_other (row_line 3) 2 (λ _. refl) rs, of_other (row_line 4) 2 (λ _. refl) ss, of_other line_of_marks 2 (λ _. refl) d.marks)
      (append-nil (map (parameter_line 2) qs))

  of_3 : of_kind 3 (print_lines d) ≡ map (row_line 3) rs
  unfolding of_kind
  of_3 =
      rw (parts 3, of_other (parameter_line 1) 3 (λ _. refl) ps, of_other (parameter_line 2) 3 (λ _. refl) qs, of_same (row_line 3) 3 (λ _. refl) rs, of_other (row_line 4) 3 (λ _. refl) ss, of_other line_of_marks 3 (λ _. refl) d.marks)
      (append-nil (map (row_line 3) rs))

  of_4 : of_kind 4 (print_lines d) ≡ map (row_line 4) ss
  unfolding of_kind
  of_4 =
      rw (parts 4, of_other (parameter_line 1) 4 (λ _. refl) ps, of_other (parameter_line 2) 4 (λ _. refl) qs, of_other (row_line 3) 4 (λ _. refl) rs, of_same (row_line 4) 4 (λ _. refl) ss, of_other line_of_marks 4 (λ _. refl) d.marks)
      (append-nil (map (row_line 4) ss))

  -- kinds 5 to 7 stand in the last lines
  of_last : (k : ℕ) → eqb 1 k ≡ false → eqb 2 k ≡ false → eqb 3 k ≡ false → eqb 4 k ≡ false → eqb 8 k ≡ false → of_kind k (print_lines d) ≡ of_kind k (last_lines d)
  of_last k a b c e m =
      rw (
        parts k,
        of_other (parameter_line 1) k (λ _. a) ps,
        of_other (parameter_line 2) k (λ _. b) qs,
        of_other (row_line 3) k (λ _. c) rs,
        of_other (row_line 4) k (λ _. e) ss,
        of_other line_of_marks k (λ _. m) d.marks,
      )
      (append-nil (of_kind k (last_lines d)))

  pub of_8 : of_kind 8 (print_lines d) ≡ map line_of_marks d.marks
  unfolding of_kind
  of_8 =
      rw (
        parts 8,
        of_other (parameter_line 1) 8 (λ _. refl) ps,
        of_other (parameter_line 2) 8 (λ _. refl) qs,
        of_other (row_line 3) 8 (λ _. refl) rs,
        of_other (row_line 4) 8 (λ _. refl) ss,
        of_same line_of_marks 8 (λ _. refl) d.marks,
      )

  the_5 : the_line 5 (print_lines d) ≡ 5 ∷ print_f d.invariant
  unfolding of_kind
  the_5 = rw (of_last 5 refl refl refl refl refl)

  the_6 : the_line 6 (print_lines d) ≡ 6 ∷ print_values d.mapping
  unfolding of_kind
  the_6 = rw (of_last 6 refl refl refl refl refl)

  the_7 : the_line 7 (print_lines d) ≡ 7 ∷ print_v d.measure
  unfolding of_kind
  the_7 = rw (of_last 7 refl refl refl refl refl)

  -- ---- the law

  module _ (p : Printable d) where
    pub printed : design_of (print_lines d) ≡ d
    unfolding design_of
    printed =
        rw (
          of_1,
          of_2,
          of_3,
          of_4,
          the_5,
          the_6,
          the_7,
          of_8,
          length-map (parameter_line 1) ps,
          length-map (parameter_line 2) qs,
          parameters_back 1 ps,
          parameters_back 2 qs,
          rows_back 3 (length ps) rs p.impl_rows_lem,
          rows_back 4 (length qs) ss p.spec_rows_lem,
          formula_alone (length ps) d.invariant p.invariant,
          value_alone (length ps) d.measure p.measure,
          ← p.all_mapped,
          values_back (length ps) false d.mapping p.mapping,
          marks_back (length ps) (internal_rows rs) d.marks p.marks,
        )

-- ---- the line of marks

module _ (a b c e f : List (List ℕ)) where
  ended : (more : List (List ℕ)) → (a ++ (b ++ (c ++ (e ++ (f ++ []))))) ++ more ≡ a ++ (b ++ (c ++ (e ++ (f ++ more))))
  ended more =
      rw (append-nil f, append_assoc a (b ++ (c ++ (e ++ f))) more, append_assoc b (c ++ (e ++ f)) more, append_assoc c (e ++ f) more, append_assoc e f more)

-- the lines of a design without marks, and that of the marks, if there is one
pub marks_last : (d : Design) (ms : List (List Formula)) → print_lines (with_marks d ms) ≡ print_lines (with_marks d []) ++ map line_of_marks ms
marks_last d ms =
    sym (ended (map (parameter_line 1) (ps d)) (map (parameter_line 2) (qs d)) (map (row_line 3) (rs d)) (map (row_line 4) (ss d)) (last_lines d) (map line_of_marks ms))
