-- Fields that are terms one after the other are read as these terms, whatever follows them (specs/Faults, `Terms`): so what a line
-- says does not depend on what stands behind it (`row_same`, `mapping_same`, ..).
use Prim.Native.Nat.{ℕ, zero, suc, ◌≤◌, ◌<◌}
use mathlib.Core.Path.{◌≡◌, refl, sym, ap, ◌∙◌}
use mathlib.Core.Bool.{Bool, true, false}
use mathlib.Core.List.{List, [], ◌∷◌, ◌++◌, append_assoc, append-nil}
use native.Mathlib.Omega.{arith}
use lib.ListN.{length, get_or, drop, get_or-append}
use lib.Seq.{drop-append_seam, drop-append-le}
use Rattle.terms.specs.Tree.{Value, Formula, ok_v, ok_f}
use Rattle.terms.specs.Depth.{depth_v, depth_f}
use Rattle.terms.specs.Print.{print_v, print_f}
use Rattle.terms.specs.Read.{leaf}
use Rattle.terms.proofs.Printing.{print_read_v, print_read_f}
use Rattle.kinds.specs.Kinds.{Sort, value, formula, n_values, n_formulas}
use Rattle.criteria.specs.Design.{Row}
use Rattle.design.specs.Line.{value_in, formula_in, values_in, formulas_in, parameter_of, row_of, invariant_of, mapping_of, measure_value, marks_of}
use Rattle.design.specs.Faults.{Terms, none, then_value, then_formula}

-- ---- the first term, and those after it

pub record FirstValue (n : ℕ) (row : Bool) (sorts : List Sort) (fields : List ℕ) : Type 0 where
  pub tree : Value
  pub well_formed : ok_v tree n row ≡ true
  pub shallow : depth_v tree ≤ 32
  pub later : List ℕ
  pub split : fields ≡ print_v tree ++ later
  pub terms : Terms n row sorts later

pub record FirstFormula (n : ℕ) (row : Bool) (sorts : List Sort) (fields : List ℕ) : Type 0 where
  pub tree : Formula
  pub well_formed : ok_f tree n row ≡ true
  pub shallow : depth_f tree ≤ 32
  pub later : List ℕ
  pub split : fields ≡ print_f tree ++ later
  pub terms : Terms n row sorts later

abbrev Parts : ℕ → Bool → List Sort → List ℕ → Type 0
Parts n row [] fields = fields ≡ []
Parts n row (value ∷ sorts) fields = FirstValue n row sorts fields
Parts n row (formula ∷ sorts) fields = FirstFormula n row sorts fields

parts : {n : ℕ} {row : Bool} {sorts : List Sort} {fields : List ℕ} → Terms n row sorts fields → Parts n row sorts fields
parts none = refl
parts (then_value v ok d t) = record { tree = v; well_formed = ok; shallow = d; later = _; split = refl; terms = t }
parts (then_formula f ok d t) = record { tree = f; well_formed = ok; shallow = d; later = _; split = refl; terms = t }

pub no_terms : {n : ℕ} {row : Bool} {fields : List ℕ} → Terms n row [] fields → fields ≡ []
no_terms t = parts t

pub first_value : {n : ℕ} {row : Bool} {sorts : List Sort} {fields : List ℕ} → Terms n row (value ∷ sorts) fields → FirstValue n row sorts fields
first_value t = parts t

pub first_formula : {n : ℕ} {row : Bool} {sorts : List Sort} {fields : List ℕ} → Terms n row (formula ∷ sorts) fields → FirstFormula n row sorts fields
first_formula t = parts t

-- ---- it is read, and what follows it does not matter

module _ (n : ℕ) (row : Bool) {sorts : List Sort} {fields : List ℕ} (more : List ℕ) where
  pub value_read : (v : FirstValue n row sorts fields) → value_in (fields ++ more) ≡ leaf v.tree (length (print_v v.tree))
  value_read v =
      rw (v.split, append_assoc (print_v v.tree) v.later more) (print_read_v n row v.tree 32 v.well_formed v.shallow (v.later ++ more))

  pub value_after : (v : FirstValue n row sorts fields) → drop (length (print_v v.tree)) (fields ++ more) ≡ v.later ++ more
  value_after v =
      rw (v.split, append_assoc (print_v v.tree) v.later more) (drop-append_seam (print_v v.tree) (v.later ++ more))

  pub formula_read : (f : FirstFormula n row sorts fields) → formula_in (fields ++ more) ≡ leaf f.tree (length (print_f f.tree))
  formula_read f =
      rw (f.split, append_assoc (print_f f.tree) f.later more) (print_read_f n row f.tree 32 f.well_formed f.shallow (f.later ++ more))

  pub formula_after : (f : FirstFormula n row sorts fields) → drop (length (print_f f.tree)) (fields ++ more) ≡ f.later ++ more
  formula_after f =
      rw (f.split, append_assoc (print_f f.tree) f.later more) (drop-append_seam (print_f f.tree) (f.later ++ more))

-- the values that the fields are
pub values_of : {n : ℕ} {row : Bool} (k : ℕ) {fields : List ℕ} → Terms n row (n_values k) fields → List Value
values_of zero t = []
values_of (suc k) t = let v = first_value t in v.tree ∷ values_of k v.terms

pub values_read : {n : ℕ} {row : Bool} (k : ℕ) {fields : List ℕ} (t : Terms n row (n_values k) fields) (more : List ℕ)
    → values_in k (fields ++ more) ≡ values_of k t
unfolding values_in values_of
values_read zero t more = refl
values_read {n} {row} (suc k) {fields} t more =
    let v = first_value t in
    rw (value_read n row more v, value_after n row more v, values_read k v.terms more)

-- the formulas
pub formulas_of : {n : ℕ} {row : Bool} (k : ℕ) {fields : List ℕ} → Terms n row (n_formulas k) fields → List Formula
formulas_of zero t = []
formulas_of (suc k) t = let f = first_formula t in f.tree ∷ formulas_of k f.terms

pub formulas_read : {n : ℕ} {row : Bool} (k : ℕ) {fields : List ℕ} (t : Terms n row (n_formulas k) fields) (more : List ℕ)
    → formulas_in k (fields ++ more) ≡ formulas_of k t
unfolding formulas_in formulas_of
formulas_read zero t more = refl
formulas_read {n} {row} (suc k) {fields} t more =
    let f = first_formula t in
    rw (formula_read n row more f, formula_after n row more f, formulas_read k f.terms more)

-- ---- so what a line says is the same with more behind it

get_same : (line more : List ℕ) (i : ℕ) → i < length line → get_or (line ++ more) i 0 ≡ get_or line i 0
get_same line more i h = get_or-append line more 0 i h

pub parameter_same : (line more : List ℕ) → length line ≡ 3 → parameter_of (line ++ more) ≡ parameter_of line
parameter_same line more h = rw (get_same line more 1 (omega arith), get_same line more 2 (omega arith))

-- nothing more behind it
alone : {A : Type 0} (says : List ℕ → A) (a : A) (line : List ℕ) → ((more : List ℕ) → says (line ++ more) ≡ a) → (more : List ℕ) → says (line ++ more) ≡ says line
alone says a line h more = h more ∙ sym (ap says (sym (append-nil line)) ∙ h [])

module _ (n : ℕ) (line : List ℕ) (long : 3 ≤ length line) (t : Terms n true (formula ∷ value ∷ n_values n) (drop 3 line)) where
  condition_of : FirstFormula n true (value ∷ n_values n) (drop 3 line)
  condition_of = first_formula t

  data_of : FirstValue n true (n_values n) condition_of.later
  data_of = first_value condition_of.terms

  -- the row, by the terms that its line is
  pub made_row : Row
  made_row = record {
    action = get_or line 1 0;
    span = get_or line 2 0;
    condition = condition_of.tree;
    carries = data_of.tree;
    next = values_of n data_of.terms;
  }

  pub row_read : (more : List ℕ) → row_of n (line ++ more) ≡ made_row
  unfolding made_row
  row_read more =
      rw
      (get_same line more 1 (omega arith), get_same line more 2 (omega arith), drop-append-le 3 line more long, formula_read n true more condition_of, formula_after n true more condition_of, value_read n true more data_of, value_after n true more data_of, values_read n data_of.terms more)

  pub row_same : (more : List ℕ) → row_of n (line ++ more) ≡ row_of n line
  row_same more = alone (λ l. row_of n l) made_row line row_read more

module _ (n : ℕ) (line : List ℕ) (long : 1 ≤ length line) where
  pub invariant_same : Terms n false (formula ∷ []) (drop 1 line) → (more : List ℕ) → invariant_of (line ++ more) ≡ invariant_of line
  invariant_same t =
      let f = first_formula t in
      alone invariant_of f.tree line (λ more. rw (invariant_of, drop-append-le 1 line more long) (ap (λ r. r.tree) (formula_read n false more f)))

  pub mapping_same : (m : ℕ) → Terms n false (n_values m) (drop 1 line) → (more : List ℕ) → mapping_of m (line ++ more) ≡ mapping_of m line
  mapping_same m t = alone (λ l. mapping_of m l) (values_of m t) line (λ more. rw (drop-append-le 1 line more long) (values_read m t more))

  pub measure_same : Terms n false (value ∷ []) (drop 1 line) → (more : List ℕ) → measure_value (line ++ more) ≡ measure_value line
  measure_same t =
      let v = first_value t in
      alone measure_value v.tree line (λ more. rw (measure_value, drop-append-le 1 line more long) (ap (λ r. r.tree) (value_read n false more v)))

  pub marks_same : (i : ℕ) → Terms n true (n_formulas i) (drop 1 line) → (more : List ℕ) → marks_of i (line ++ more) ≡ marks_of i line
  marks_same i t = alone (λ l. marks_of i l) (formulas_of i t) line (λ more. rw (drop-append-le 1 line more long) (formulas_read i t more))
