-- The law of sum-free terms: one value for all sum values, or none for any. A row of such terms may be asked for one sum value only.
use mathlib.Core.Path.{◌≡◌, refl}
use mathlib.Core.Bool.{true, ◌&&◌}
use mathlib.Core.List.{List}
use Prim.Native.Nat.{ℕ}
use Rattle.terms.specs.Tree.{Value, Formula, num, par, sum_value, arith, choice, const, compare, negation, join, no_value, no_formula, eval_v, eval_f, has_v, has_f}
use Rattle.terms.proofs.And.{and_left, and_right}
use Rattle.sum_free.specs.SumFree.{sum_free_v, sum_free_f}

mutual
  unfolding eval_v sum_free_v

  pub same_v : (t : Value) (ps : List ℕ) (s s' : ℕ) → sum_free_v t ≡ true → eval_v t ps s ≡ eval_v t ps s'
  same_v (num n) ps s s' h = refl
  same_v (par i) ps s s' h = refl
  same_v sum_value ps s s' h = cc
  same_v (arith o a b) ps s s' h = rw (same_v a ps s s' (and_left (sum_free_v a) (sum_free_v b) h), same_v b ps s s' (and_right (sum_free_v a) (sum_free_v b) h))
  same_v (choice f a b) ps s s' h =
      let k = and_right (sum_free_f f) (sum_free_v a && sum_free_v b) h in
      rw (same_f f ps s s' (and_left (sum_free_f f) (sum_free_v a && sum_free_v b) h), same_v a ps s s' (and_left (sum_free_v a) (sum_free_v b) k), same_v b ps s s' (and_right (sum_free_v a) (sum_free_v b) k))
  same_v no_value ps s s' h = refl

  pub same_f : (t : Formula) (ps : List ℕ) (s s' : ℕ) → sum_free_f t ≡ true → eval_f t ps s ≡ eval_f t ps s'
  same_f (const b) ps s s' h = refl
  same_f (compare o a b) ps s s' h = rw (same_v a ps s s' (and_left (sum_free_v a) (sum_free_v b) h), same_v b ps s s' (and_right (sum_free_v a) (sum_free_v b) h))
  same_f (negation f) ps s s' h = rw (same_f f ps s s' h)
  same_f (join o f g) ps s s' h = rw (same_f f ps s s' (and_left (sum_free_f f) (sum_free_f g) h), same_f g ps s s' (and_right (sum_free_f f) (sum_free_f g) h))
  same_f no_formula ps s s' h = refl

mutual
  unfolding has_v sum_free_v

  pub same_has_v : (t : Value) (ps : List ℕ) (s s' : ℕ) → sum_free_v t ≡ true → has_v t ps s ≡ has_v t ps s'
  same_has_v (num n) ps s s' h = refl
  same_has_v (par i) ps s s' h = refl
  same_has_v sum_value ps s s' h = refl
  same_has_v (arith o a b) ps s s' h =
      let l = and_left (sum_free_v a) (sum_free_v b) h in
      let r = and_right (sum_free_v a) (sum_free_v b) h in
      rw (same_has_v a ps s s' l, same_has_v b ps s s' r, same_v b ps s s' r)
  same_has_v (choice f a b) ps s s' h =
      let k = and_right (sum_free_f f) (sum_free_v a && sum_free_v b) h in
      let l = and_left (sum_free_f f) (sum_free_v a && sum_free_v b) h in
      rw (same_has_f f ps s s' l, same_f f ps s s' l, same_has_v a ps s s' (and_left (sum_free_v a) (sum_free_v b) k), same_has_v b ps s s' (and_right (sum_free_v a) (sum_free_v b) k))
  same_has_v no_value ps s s' h = refl

  pub same_has_f : (t : Formula) (ps : List ℕ) (s s' : ℕ) → sum_free_f t ≡ true → has_f t ps s ≡ has_f t ps s'
  same_has_f (const b) ps s s' h = refl
  same_has_f (compare o a b) ps s s' h = rw (same_has_v a ps s s' (and_left (sum_free_v a) (sum_free_v b) h), same_has_v b ps s s' (and_right (sum_free_v a) (sum_free_v b) h))
  same_has_f (negation f) ps s s' h = same_has_f f ps s s' h
  same_has_f (join o f g) ps s s' h = rw (same_has_f f ps s s' (and_left (sum_free_f f) (sum_free_f g) h), same_has_f g ps s s' (and_right (sum_free_f f) (sum_free_f g) h))
  same_has_f no_formula ps s s' h = refl
