-- The depth of a term, counted over values and formulas together (01, "Terms"): "A leaf has depth 1; the deepest term allowed has
-- depth 32." Where nothing could be read there is no term, and the depth is 0.
use Rattle.std.specs.Prelude.{ℕ, ◌+◌, max}
use Rattle.terms.specs.Tree.{Value, Formula, num, par, sum_value, arith, choice, const, compare, negation, join, no_value, no_formula}

unfoldable mutual
  pub depth_v : Value → ℕ
  depth_v (num n) = 1
  depth_v (par i) = 1
  depth_v sum_value = 1
  depth_v (arith o a b) = 1 + max (depth_v a) (depth_v b)
  depth_v (choice f a b) = 1 + max (depth_f f) (max (depth_v a) (depth_v b))
  depth_v no_value = 0

  pub depth_f : Formula → ℕ
  depth_f (const b) = 1
  depth_f (compare o a b) = 1 + max (depth_v a) (depth_v b)
  depth_f (negation f) = 1 + depth_f f
  depth_f (join o f g) = 1 + max (depth_f f) (depth_f g)
  depth_f no_formula = 0
