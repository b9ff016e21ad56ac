-- How a list of fields is read as a term: "Terms are in prefix order" (01).
--
-- A reading always gives a tree, with `no_value` or `no_formula` where nothing could be read, and says how many fields it took: what
-- is left of the list l is `drop used l`. Whether the tree is well formed is asked of the tree (ok_v, ok_f in Tree). The laws of
-- reading are in proofs/Read, those between reading and printing in proofs/Printing.
use Rattle.std.specs.Prelude.{ℕ, zero, suc, ◌+◌, List, [], ◌∷◌, drop}
use Rattle.terms.specs.Tree.{Value, Formula, num, par, sum_value, arith, choice, const, compare, negation, join, no_value, no_formula}
use Rattle.terms.specs.Mark.{value_mark, formula_mark}
use Rattle.terms.specs.declared.ValueMark.{ValueMark}
use Rattle.terms.specs.declared.ValueMark.TheVariants as vm
use Rattle.terms.specs.declared.FormulaMark.{FormulaMark}
use Rattle.terms.specs.declared.FormulaMark.TheVariants as fm

-- the tree that was read, and how many fields it took
pub record Read (A : Type 0) : Type 0 where
  pub tree : A
  pub used : ℕ

abbrev pub Reader : Type 0 → Type 0
Reader A = List ℕ → Read A

-- a tree, and the fields that it takes
abbrev pub leaf : {A : Type 0} → A → ℕ → Read A
leaf a n = record { tree = a; used = n }

-- after a mark: a number, from which the leaf is made
abbrev pub operand : (ℕ → Value) → Reader Value
operand f [] = leaf no_value 0
operand f (n ∷ l) = leaf (f n) 2

-- after a mark: one, two or three terms, each read from where the one before ended
abbrev pub one : {A B : Type 0} → (A → B) → Reader A → Reader B
one f p l = record { tree = f (p l).tree; used = 1 + (p l).used }

abbrev pub two : {A B C : Type 0} → (A → B → C) → Reader A → Reader B → Reader C
two f p q l =
    let a = p l in
    let b = q (drop a.used l) in
    record { tree = f a.tree b.tree; used = 1 + (a.used + b.used) }

abbrev pub three : {A B C D : Type 0} → (A → B → C → D) → Reader A → Reader B → Reader C → Reader D
three f p q r l =
    let a = p l in
    let b = q (drop a.used l) in
    let c = r (drop b.used (drop a.used l)) in
    record { tree = f a.tree b.tree c.tree; used = 1 + (a.used + (b.used + c.used)) }

-- what follows a value's mark: "`0 n`; `1 i`; `2`; `3 v v`, `4 v v`, `5 v v`; `6 f v v`", where v and f read a value and a formula
abbrev pub value_by : ValueMark → Reader Value → Reader Formula → Reader Value
value_by vm.Number v f = operand num
value_by vm.Parameter v f = operand par
value_by vm.SumValue v f = λ _. leaf sum_value 1
value_by (vm.Arithmetic o) v f = two (arith o) v v
value_by vm.Choice v f = three choice f v v
value_by vm.Wrong v f = λ _. leaf no_value 0

-- what follows a formula's mark: "`10`; `11`; `12 v v`, `13 v v`; `14 f`; `15 f f`, `16 f f`"
abbrev pub formula_by : FormulaMark → Reader Value → Reader Formula → Reader Formula
formula_by (fm.Constant b) v f = λ _. leaf (const b) 1
formula_by (fm.Comparison o) v f = two (compare o) v v
formula_by fm.Negation v f = one negation f
formula_by (fm.Connective o) v f = two (join o) f f
formula_by fm.Wrong v f = λ _. leaf no_formula 0

-- The term that a list begins with, where one of depth at most d is asked for. "A leaf has depth 1; the deepest term allowed has
-- depth 32": the reading of a line asks for 32.
unfoldable mutual
  pub read_v : ℕ → Reader Value
  read_v zero l = leaf no_value 0
  read_v (suc d) [] = leaf no_value 0
  read_v (suc d) (m ∷ l) = value_by (value_mark m) (λ x. read_v d x) (λ x. read_f d x) l

  pub read_f : ℕ → Reader Formula
  read_f zero l = leaf no_formula 0
  read_f (suc d) [] = leaf no_formula 0
  read_f (suc d) (m ∷ l) = formula_by (formula_mark m) (λ x. read_v d x) (λ x. read_f d x) l
