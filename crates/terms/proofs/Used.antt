-- A reading takes no more fields than there are.
use Rattle.std.proofs.Common.{ℕ, zero, suc, ◌≤◌, List, [], ◌∷◌, length, drop, arith, length-drop}
use Rattle.terms.specs.Tree.{Value, Formula}
use Rattle.terms.specs.Mark.{value_mark, formula_mark}
use Rattle.terms.specs.Read.{Reader, read_v, read_f, value_by, formula_by}
use Rattle.terms.specs.declared.ValueMark.{ValueMark}
use Rattle.terms.specs.declared.ValueMark.TheVariants as vm
use Rattle.terms.specs.declared.FormulaMark.{FormulaMark}
use Rattle.terms.specs.declared.FormulaMark.TheVariants as fm

-- what follows a mark takes no more than that, if its terms do not
module _ (v : Reader Value) (f : Reader Formula) (hv : (l : List ℕ) → (v l).used ≤ length l) (hf : (l : List ℕ) → (f l).used ≤ length l) where
  after_v : (w : ValueMark) (l : List ℕ) → (value_by w v f l).used ≤ suc (length l)
  after_v vm.Number [] = omega arith
  after_v vm.Number (x ∷ l) = omega arith
  after_v vm.Parameter [] = omega arith
  after_v vm.Parameter (x ∷ l) = omega arith
  after_v vm.SumValue l = omega arith
  after_v (vm.Arithmetic o) l = let a : ℕ = (v l).used in omega (arith, hv l, hv (drop a l), length-drop a l)
  after_v vm.Choice l =
      let g : ℕ = (f l).used in
      let a : ℕ = (v (drop g l)).used in
      omega (arith, hf l, hv (drop g l), hv (drop a (drop g l)), length-drop g l, length-drop a (drop g l))
  after_v vm.Wrong l = omega arith

  after_f_lem : (w : FormulaMark) (l : List ℕ) → (formula_by w v f l).used ≤ suc (length l)
  after_f_lem (fm.Constant b) l = omega arith
  after_f_lem (fm.Comparison o) l = let a : ℕ = (v l).used in omega (arith, hv l, hv (drop a l), length-drop a l)
  after_f_lem fm.Negation l = omega (arith, hf l)
  after_f_lem (fm.Connective o) l = let a : ℕ = (f l).used in omega (arith, hf l, hf (drop a l), length-drop a l)
  after_f_lem fm.Wrong l = omega arith

mutual
  unfolding read_v

  pub used_v : (d : ℕ) (l : List ℕ) → (read_v d l).used ≤ length l
  used_v zero l = omega arith
  used_v (suc d) [] = omega arith
  used_v (suc d) (m ∷ l) = after_v (λ x. read_v d x) (λ x. read_f d x) (λ x. used_v d x) (λ x. used_f d x) (value_mark m) l

  pub used_f : (d : ℕ) (l : List ℕ) → (read_f d l).used ≤ length l
  used_f zero l = omega arith
  used_f (suc d) [] = omega arith
  used_f (suc d) (m ∷ l) = after_f_lem (λ x. read_v d x) (λ x. read_f d x) (λ x. used_v d x) (λ x. used_f d x) (formula_mark m) l
