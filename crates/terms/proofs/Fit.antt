-- A term that is read from fields has numbers that a field can hold.
use Rattle.std.proofs.Common.{ℕ, zero, suc, ◌+◌, List, [], ◌∷◌, drop, get_or-drop}
use Rattle.terms.specs.Tree.{Value, Formula}
use Rattle.terms.specs.Mark.{value_mark, formula_mark}
use Rattle.terms.specs.Read.{Reader, read_v, read_f, value_by, formula_by}
use Rattle.terms.specs.Fit.{FitsAll, FitsV, FitsF}
use Rattle.terms.specs.declared.ValueMark.{ValueMark}
use Rattle.terms.specs.declared.ValueMark.TheVariants as vm
use Rattle.terms.specs.declared.FormulaMark.{FormulaMark}
use Rattle.terms.specs.declared.FormulaMark.TheVariants as fm

rest_fits : (l : List ℕ) (k : ℕ) → FitsAll l → FitsAll (drop k l)
rest_fits l k h i = rw (get_or-drop k l i 0) (h (k + i))

module _ (v : Reader Value) (f : Reader Formula)
    (hv : (l : List ℕ) → FitsAll l → FitsV (v l).tree) (hf : (l : List ℕ) → FitsAll l → FitsF (f l).tree) where
  by_mark_v : (w : ValueMark) (l : List ℕ) → FitsAll l → FitsV (value_by w v f l).tree
  unfolding FitsV
  by_mark_v vm.Number [] h = tt
  by_mark_v vm.Number (x ∷ l) h = h 0
  by_mark_v vm.Parameter [] h = tt
  by_mark_v vm.Parameter (x ∷ l) h = tt
  by_mark_v vm.SumValue l h = tt
  by_mark_v (vm.Arithmetic o) l h = (hv l h, hv (drop (v l).used l) (rest_fits l (v l).used h))
  by_mark_v vm.Choice l h =
      let g : ℕ = (f l).used in
      let a : ℕ = (v (drop g l)).used in
      let h₂ : FitsAll (drop g l) = rest_fits l g h in
      (hf l h, (hv (drop g l) h₂, hv (drop a (drop g l)) (rest_fits (drop g l) a h₂)))
  by_mark_v vm.Wrong l h = tt

  by_mark_f : (w : FormulaMark) (l : List ℕ) → FitsAll l → FitsF (formula_by w v f l).tree
  unfolding FitsF
  by_mark_f (fm.Constant b) l h = tt
  by_mark_f (fm.Comparison o) l h = (hv l h, hv (drop (v l).used l) (rest_fits l (v l).used h))
  by_mark_f fm.Negation l h = hf l h
  by_mark_f (fm.Connective o) l h = (hf l h, hf (drop (f l).used l) (rest_fits l (f l).used h))
  by_mark_f fm.Wrong l h = tt

mutual
  unfolding read_v FitsV

  pub read_fits_v : (d : ℕ) (l : List ℕ) → FitsAll l → FitsV (read_v d l).tree
  read_fits_v zero l h = tt
  read_fits_v (suc d) [] h = tt
  read_fits_v (suc d) (m ∷ l) h =
      by_mark_v (λ x. read_v d x) (λ x. read_f d x) (λ x g. read_fits_v d x g) (λ x g. read_fits_f d x g) (value_mark m) l (λ i. h (suc i))

  pub read_fits_f : (d : ℕ) (l : List ℕ) → FitsAll l → FitsF (read_f d l).tree
  read_fits_f zero l h = tt
  read_fits_f (suc d) [] h = tt
  read_fits_f (suc d) (m ∷ l) h =
      by_mark_f (λ x. read_v d x) (λ x. read_f d x) (λ x g. read_fits_v d x g) (λ x g. read_fits_f d x g) (formula_mark m) l (λ i. h (suc i))
