-- Terms that do not read the sum value, and what is answered for one that was read from the place `at` on. That such a term has one
-- value for all sum values is in proofs/SumFree.
use Rattle.std.specs.Prelude.{Bool, true, false, ◌&&◌, ℕ, ◌+◌}
use Rattle.terms.specs.Tree.{Value, Formula, num, par, sum_value, arith, choice, const, compare, negation, join, no_value, no_formula}
use Rattle.terms.specs.Read.{Read}
use Rattle.sum_free.specs.declared.Found.{Found}

-- no `2` in it
unfoldable mutual
  pub sum_free_v : Value → Bool
  sum_free_v (num n) = true
  sum_free_v (par i) = true
  sum_free_v sum_value = false
  sum_free_v (arith o a b) = sum_free_v a && sum_free_v b
  sum_free_v (choice f a b) = sum_free_f f && (sum_free_v a && sum_free_v b)
  sum_free_v no_value = true

  pub sum_free_f : Formula → Bool
  sum_free_f (const b) = true
  sum_free_f (compare o a b) = sum_free_v a && sum_free_v b
  sum_free_f (negation f) = sum_free_f f
  sum_free_f (join o f g) = sum_free_f f && sum_free_f g
  sum_free_f no_formula = true

-- whether the term is sum-free, and the place after it
abbrev pub found_v : ℕ → Read Value → Found
found_v at r = record { free = sum_free_v r.tree; next = at + r.used }

abbrev pub found_f : ℕ → Read Formula → Found
found_f at r = record { free = sum_free_f r.tree; next = at + r.used }
