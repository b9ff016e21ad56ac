-- The lines of a text without faults 4 and 6 are the printing of their design (`lines_again`): the other way round than Printed.
use Prim.Native.Nat.{ℕ, zero, suc, ◌≤◌}
use mathlib.Core.Path.{◌≡◌, refl, sym, ap, ◌∙◌}
use mathlib.Core.Bool.{Bool, true}
use mathlib.Core.List.{List, [], ◌∷◌, ◌++◌, map, append-nil, Memᴰ}
use native.Mathlib.Omega.{arith}
use lib.ListN.{length, get_or, drop}
use Rattle.terms.specs.Read.{leaf}
use Rattle.terms.specs.Print.{print_v, print_f}
use Rattle.kinds.specs.Kinds.{whole_text, Sort, value, formula, n_values, n_formulas}
use Rattle.design.specs.Line.{value_in, formula_in, values_in, formulas_in, parameter_of, row_of, invariant_of, mapping_of, measure_value, marks_of}
use Rattle.design.specs.Lines.{kind_of, of_kind, the_line, count_of, internal_of, design_of}
use Rattle.design.specs.Faults.{Terms}
use Rattle.design.specs.Print.{print_values, print_formulas, parameter_line, row_line, line_of_marks, print_lines}
use Rattle.design.proofs.Each.{EachLine}
use Rattle.design.proofs.Fault4.{Layout}
use Rattle.design.proofs.WholeText.{in_order, Counted, counted, Exactly, exactly_1, exactly_2, least_3, least_4}
use Rattle.design.proofs.Held.{TermsFit, nth_among, of_kind_lem, exactly, at_least, row_terms, spec_terms, invariant_terms, mapping_terms, measure_terms, marks_terms}
use Rattle.design.proofs.Terms.{FirstValue, FirstFormula, first_value, first_formula, no_terms, value_read, value_after, formula_read, formula_after}

-- ---- terms: what is read of them and printed again

module _ {n : ℕ} {row : Bool} {sorts : List Sort} {fields : List ℕ} where
  value_at : (v : FirstValue n row sorts fields) → value_in fields ≡ leaf v.tree (length (print_v v.tree))
  value_at v = ap value_in (sym (append-nil fields)) ∙ value_read n row [] v

  value_next : (v : FirstValue n row sorts fields) → drop (length (print_v v.tree)) fields ≡ v.later
  value_next v = ap (drop (length (print_v v.tree))) (sym (append-nil fields)) ∙ value_after n row [] v ∙ append-nil v.later

  pub formula_at : (f : FirstFormula n row sorts fields) → formula_in fields ≡ leaf f.tree (length (print_f f.tree))
  formula_at f = ap formula_in (sym (append-nil fields)) ∙ formula_read n row [] f

  pub formula_next : (f : FirstFormula n row sorts fields) → drop (length (print_f f.tree)) fields ≡ f.later
  formula_next f = ap (drop (length (print_f f.tree))) (sym (append-nil fields)) ∙ formula_after n row [] f ∙ append-nil f.later

values_print : {n : ℕ} {row : Bool} (k : ℕ) {fields : List ℕ} → Terms n row (n_values k) fields → print_values (values_in k fields) ≡ fields
unfolding values_in
values_print zero t = sym (no_terms t)
values_print (suc k) t =
    let v = first_value t in
    rw (value_at v, value_next v) (ap (λ r. print_v v.tree ++ r) (values_print k v.terms) ∙ sym v.split)

formulas_print : {n : ℕ} {row : Bool} (k : ℕ) {fields : List ℕ} → Terms n row (n_formulas k) fields → print_formulas (formulas_in k fields) ≡ fields
unfolding formulas_in
formulas_print zero t = sym (no_terms t)
formulas_print (suc k) t =
    let f = first_formula t in
    rw (formula_at f, formula_next f) (ap (λ r. print_f f.tree ++ r) (formulas_print k f.terms) ∙ sym f.split)

value_print : {n : ℕ} {row : Bool} {fields : List ℕ} → Terms n row (value ∷ []) fields → print_v (value_in fields).tree ≡ fields
value_print {fields = fields} t =
    let v = first_value t in
    rw (value_at v) (sym (append-nil (print_v v.tree)) ∙ ap (λ r. print_v v.tree ++ r) (sym (no_terms v.terms)) ∙ sym v.split)

formula_print : {n : ℕ} {row : Bool} {fields : List ℕ} → Terms n row (formula ∷ []) fields → print_f (formula_in fields).tree ≡ fields
formula_print {fields = fields} t =
    let f = first_formula t in
    rw (formula_at f) (sym (append-nil (print_f f.tree)) ∙ ap (λ r. print_f f.tree ++ r) (sym (no_terms f.terms)) ∙ sym f.split)

-- ---- lines: their numbers, and what stands behind them

three : (line : List ℕ) → length line ≡ 3 → get_or line 0 0 ∷ get_or line 1 0 ∷ get_or line 2 0 ∷ [] ≡ line
three [] h = absurd (omega arith)
three (a ∷ []) h = absurd (omega arith)
three (a ∷ b ∷ []) h = absurd (omega arith)
three (a ∷ b ∷ c ∷ []) h = refl
three (a ∷ b ∷ c ∷ d ∷ line) h = absurd (omega arith)

three_more : (line : List ℕ) → 3 ≤ length line → get_or line 0 0 ∷ get_or line 1 0 ∷ get_or line 2 0 ∷ drop 3 line ≡ line
three_more [] h = absurd (omega arith)
three_more (a ∷ []) h = absurd (omega arith)
three_more (a ∷ b ∷ []) h = absurd (omega arith)
three_more (a ∷ b ∷ c ∷ line) h = refl

one_more : (line : List ℕ) → 1 ≤ kind_of line → get_or line 0 0 ∷ drop 1 line ≡ line
one_more [] h = absurd (omega arith)
one_more (a ∷ line) h = refl

parameter_line_lem : (k : ℕ) (line : List ℕ) → kind_of line ≡ k → length line ≡ 3 → parameter_line k (parameter_of line) ≡ line
parameter_line_lem k line e l = ap (λ j. j ∷ get_or line 1 0 ∷ get_or line 2 0 ∷ []) (sym e) ∙ three line l

row_line_lem : (k n : ℕ) (line : List ℕ) → kind_of line ≡ k → 3 ≤ length line → Terms n true (formula ∷ value ∷ n_values n) (drop 3 line) → row_line k (row_of n line) ≡ line
row_line_lem k n line e l t =
    let f = first_formula t in
    let v = first_value f.terms in
    let again : print_f (row_of n line).condition ++ (print_v (row_of n line).carries ++ print_values (row_of n line).next) ≡ drop 3 line =
    rw (formula_at f, formula_next f, value_at v, value_next v)
    (ap (λ r. print_f f.tree ++ (print_v v.tree ++ r)) (values_print n v.terms) ∙ ap (λ r. print_f f.tree ++ r) (sym v.split) ∙ sym f.split) in
    ap (λ r. k ∷ get_or line 1 0 ∷ get_or line 2 0 ∷ r) again ∙ ap (λ j. j ∷ get_or line 1 0 ∷ get_or line 2 0 ∷ drop 3 line) (sym e) ∙ three_more line l

again_each : {A : Type 0} (says : List ℕ → A) (prints : A → List ℕ) (lines : List (List ℕ)) → EachLine (λ line. prints (says line) ≡ line) lines
    → map prints (map says lines) ≡ lines
again_each says prints [] h = refl
again_each says prints (line ∷ lines) h = rw (h line (Memᴰ.head refl), again_each says prints lines (λ l m. h l (Memᴰ.tail m)))

single : (lines : List (List ℕ)) → length lines ≡ 1 → get_or lines 0 [] ∷ [] ≡ lines
single [] h = absurd (omega arith)
single (line ∷ []) h = refl
single (line ∷ other ∷ lines) h = absurd (omega arith)

joined : (a b c : List ℕ) (x y z w : List (List ℕ)) → a ∷ [] ≡ x → b ∷ [] ≡ y → c ∷ [] ≡ z → (a ∷ b ∷ c ∷ []) ++ w ≡ x ++ (y ++ (z ++ (w ++ [])))
joined a b c x y z w p q r = rw (← p, ← q, ← r, append-nil w)

-- ---- all lines

module _ (lines : List (List ℕ)) (lay : Layout whole_text lines) (made : TermsFit lines) where
  abbrev k : ℕ → List (List ℕ)
  k i = of_kind i lines

  -- the only line of a kind
  one_of : (i : ℕ) → count_of i lines ≡ 1 → the_line i lines ∷ [] ≡ k i
  one_of i e = single (k i) e

  among : (i : ℕ) → count_of i lines ≡ 1 → Memᴰ (the_line i lines) (k i)
  among i e = nth_among (k i) 0 (omega arith)

  parameters : (i : ℕ) → Exactly i 3 → map (parameter_line i) (map parameter_of (k i)) ≡ k i
  parameters i p =
      again_each parameter_of (parameter_line i) (k i) (λ line m. parameter_line_lem i line (of_kind_lem i lines line m).0 (exactly lay i 3 line m p))

  rows3 : map (row_line 3) (map (row_of (count_of 1 lines)) (k 3)) ≡ k 3
  rows3 =
      again_each (row_of (count_of 1 lines)) (row_line 3) (k 3)
      (λ line m. row_line_lem 3 (count_of 1 lines) line (of_kind_lem 3 lines line m).0 (at_least lay 3 3 line m least_3) (row_terms lines made line m))

  rows4 : map (row_line 4) (map (row_of (count_of 2 lines)) (k 4)) ≡ k 4
  rows4 =
      again_each (row_of (count_of 2 lines)) (row_line 4) (k 4)
      (λ line m. row_line_lem 4 (count_of 2 lines) line (of_kind_lem 4 lines line m).0 (at_least lay 4 3 line m least_4) (spec_terms lines made line m))

  one : Counted lines
  one = counted lay

  -- a line of one kind from what its terms are printed as
  last_line : (i : ℕ) (e : count_of i lines ≡ 1) (fields : List ℕ) → 5 ≤ i → fields ≡ drop 1 (the_line i lines) → (i ∷ fields) ∷ [] ≡ k i
  last_line i e fields l p =
      let line = the_line i lines in
      let kind = (of_kind_lem i lines line (among i e)).0 in
      ap (λ (r : List ℕ). r ∷ []) (ap (λ r. i ∷ r) p ∙ ap (λ j. j ∷ drop 1 line) (sym kind) ∙ one_more line (rw kind (omega arith))) ∙ one_of i e

  last5 : (5 ∷ print_f (invariant_of (the_line 5 lines))) ∷ [] ≡ k 5
  last5 = let e = one.kind5 in last_line 5 e _ (omega arith) (formula_print (invariant_terms lines made (the_line 5 lines) (among 5 e)))

  last6 : (6 ∷ print_values (mapping_of (count_of 2 lines) (the_line 6 lines))) ∷ [] ≡ k 6
  last6 = let e = one.kind6 in last_line 6 e _ (omega arith) (values_print (count_of 2 lines) (mapping_terms lines made (the_line 6 lines) (among 6 e)))

  last7 : (7 ∷ print_v (measure_value (the_line 7 lines))) ∷ [] ≡ k 7
  last7 = let e = one.kind7 in last_line 7 e _ (omega arith) (value_print (measure_terms lines made (the_line 7 lines) (among 7 e)))

  pub marks8 : map line_of_marks (map (marks_of (internal_of lines)) (k 8)) ≡ k 8
  marks8 = again_each (marks_of (internal_of lines)) line_of_marks (k 8) marks_line
    where
      marks_line : EachLine (λ line. line_of_marks (marks_of (internal_of lines) line) ≡ line) (k 8)
      marks_line line m =
          let kind = (of_kind_lem 8 lines line m).0 in
          ap (λ r. 8 ∷ r) (formulas_print (internal_of lines) (marks_terms lines made line m)) ∙ ap (λ j. j ∷ drop 1 line) (sym kind) ∙ one_more line (rw kind (omega arith))

  pub lines_again : print_lines (design_of lines) ≡ lines
  unfolding design_of
  lines_again = pieces ∙ in_order lay.kinds
    where
      pieces : print_lines (design_of lines) ≡ k 1 ++ (k 2 ++ (k 3 ++ (k 4 ++ (k 5 ++ (k 6 ++ (k 7 ++ (k 8 ++ [])))))))
      pieces =
          rw (parameters 1 exactly_1, parameters 2 exactly_2, rows3, rows4, marks8)
          (ap (λ r. k 1 ++ (k 2 ++ (k 3 ++ (k 4 ++ r)))) (joined _ _ _ (k 5) (k 6) (k 7) (k 8) last5 last6 last7))
