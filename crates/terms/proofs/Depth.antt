-- A reading is never deeper than the depth it was asked for, and a well-formed term has a depth of at least 1.
use Rattle.std.proofs.Common.{◌≡◌, ℕ, zero, suc, ◌<◌, ◌≤◌, Bool, true, List, [], ◌∷◌, drop, arith}
use mathlib.Core.Bool.{false≢true}
use Rattle.terms.specs.Tree as tree
use Rattle.terms.specs.Tree.{Value, Formula, ok_v, ok_f}
use Rattle.terms.specs.Mark.{value_mark, formula_mark}
use Rattle.terms.specs.Read.{Reader, read_v, read_f, value_by, formula_by}
use Rattle.terms.specs.Depth.{depth_v, depth_f}
use Rattle.terms.specs.declared.ValueMark.{ValueMark}
use Rattle.terms.specs.declared.ValueMark.TheVariants as vm
use Rattle.terms.specs.declared.FormulaMark.{FormulaMark}
use Rattle.terms.specs.declared.FormulaMark.TheVariants as fm

-- what a mark makes of readings of depth d is at most one deeper
module _ (d : ℕ) (v : Reader Value) (f : Reader Formula)
    (hv : (l : List ℕ) → depth_v (v l).tree ≤ d) (hf : (l : List ℕ) → depth_f (f l).tree ≤ d) where
  deeper_v : (w : ValueMark) (l : List ℕ) → depth_v (value_by w v f l).tree ≤ suc d
  unfolding depth_v
  deeper_v vm.Number [] = omega arith
  deeper_v vm.Number (x ∷ l) = omega arith
  deeper_v vm.Parameter [] = omega arith
  deeper_v vm.Parameter (x ∷ l) = omega arith
  deeper_v vm.SumValue l = omega arith
  deeper_v (vm.Arithmetic o) l = omega (arith, hv l, hv (drop (v l).used l))
  deeper_v vm.Choice l =
      let g : ℕ = (f l).used in
      let a : ℕ = (v (drop g l)).used in
      omega (arith, hf l, hv (drop g l), hv (drop a (drop g l)))
  deeper_v vm.Wrong l = omega arith

  deeper_f : (w : FormulaMark) (l : List ℕ) → depth_f (formula_by w v f l).tree ≤ suc d
  unfolding depth_f
  deeper_f (fm.Constant b) l = omega arith
  deeper_f (fm.Comparison o) l = omega (arith, hv l, hv (drop (v l).used l))
  deeper_f fm.Negation l = omega (arith, hf l)
  deeper_f (fm.Connective o) l = omega (arith, hf l, hf (drop (f l).used l))
  deeper_f fm.Wrong l = omega arith

mutual
  unfolding read_v depth_v

  pub within_v : (d : ℕ) (l : List ℕ) → depth_v (read_v d l).tree ≤ d
  within_v zero l = omega arith
  within_v (suc d) [] = omega arith
  within_v (suc d) (m ∷ l) =
      deeper_v d (λ x. read_v d x) (λ x. read_f d x) (λ x. within_v d x) (λ x. within_f d x) (value_mark m) l

  pub within_f : (d : ℕ) (l : List ℕ) → depth_f (read_f d l).tree ≤ d
  within_f zero l = omega arith
  within_f (suc d) [] = omega arith
  within_f (suc d) (m ∷ l) =
      deeper_f d (λ x. read_v d x) (λ x. read_f d x) (λ x. within_v d x) (λ x. within_f d x) (formula_mark m) l

-- no well-formed term fits in depth 0
module _ (n : ℕ) (row : Bool) where
  pub positive_v : (t : Value) → ok_v t n row ≡ true → 0 < depth_v t
  unfolding ok_v depth_v
  positive_v (tree.num k) h = omega arith
  positive_v (tree.par i) h = omega arith
  positive_v tree.sum_value h = omega arith
  positive_v (tree.arith o a b) h = omega arith
  positive_v (tree.choice f a b) h = omega arith
  positive_v tree.no_value h = absurd (false≢true h)

  pub positive_f : (t : Formula) → ok_f t n row ≡ true → 0 < depth_f t
  unfolding ok_f depth_f
  positive_f (tree.const b) h = omega arith
  positive_f (tree.compare o a b) h = omega arith
  positive_f (tree.negation f) h = omega arith
  positive_f (tree.join o f g) h = omega arith
  positive_f tree.no_formula h = absurd (false≢true h)
