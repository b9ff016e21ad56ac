-- Numbers that a field can hold: "a decimal number from 0 to 65,535" (01, "Design text"). That a term of such numbers has such a value
-- is in proofs/Eval, that a term read from fields has such numbers in proofs/Fit.
use Rattle.std.specs.Prelude.{ℕ, ◌<◌, List, slice_index}
use Rattle.terms.specs.Tree.{Value, Formula, num, par, sum_value, arith, choice, const, compare, negation, join, no_value, no_formula}

abbrev pub Fits16 : ℕ → Type 0
Fits16 n = n < 65536

-- each number of a list
abbrev pub FitsAll : List ℕ → Type 0
FitsAll l = (i : ℕ) → Fits16 (slice_index l i)

-- each number `0 n` of a term
unfoldable mutual
  pub FitsV : Value → Type 0
  FitsV (num n) = Fits16 n
  FitsV (par i) = Unit {0}
  FitsV sum_value = Unit {0}
  FitsV (arith o a b) = FitsV a × FitsV b
  FitsV (choice f a b) = FitsF f × (FitsV a × FitsV b)
  FitsV no_value = Unit {0}

  pub FitsF : Formula → Type 0
  FitsF (const b) = Unit {0}
  FitsF (compare o a b) = FitsV a × FitsV b
  FitsF (negation f) = FitsF f
  FitsF (join o f g) = FitsF f × FitsF g
  FitsF no_formula = Unit {0}
