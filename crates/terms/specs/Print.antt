-- The fields of a term, in prefix order: what a writer of terms writes (01, "Terms"). Where nothing could be read, nothing is
-- printed. That printing and reading (Read) undo each other is in proofs/Printing.
use Rattle.std.specs.Prelude.{ℕ, Bool, true, false, List, [], ◌∷◌, ◌++◌}
use Rattle.terms.specs.Tree.{Value, Formula, num, par, sum_value, arith, choice, const, compare, negation, join, no_value, no_formula}
use Rattle.terms.specs.declared.Arith.{Arith}
use Rattle.terms.specs.declared.Arith.TheVariants.{Sum, Difference, Remainder}
use Rattle.terms.specs.declared.Compare.{Compare}
use Rattle.terms.specs.declared.Compare.TheVariants.{Equal, Less}
use Rattle.terms.specs.declared.Join.{Join}
use Rattle.terms.specs.declared.Join.TheVariants.{And, Or}

abbrev pub arith_mark : Arith → ℕ
arith_mark Sum = 3
arith_mark Difference = 4
arith_mark Remainder = 5

abbrev pub const_mark : Bool → ℕ
const_mark true = 10
const_mark false = 11

abbrev pub compare_mark : Compare → ℕ
compare_mark Equal = 12
compare_mark Less = 13

abbrev pub join_mark : Join → ℕ
join_mark And = 15
join_mark Or = 16

unfoldable mutual
  pub print_v : Value → List ℕ
  print_v (num n) = 0 ∷ n ∷ []
  print_v (par i) = 1 ∷ i ∷ []
  print_v sum_value = 2 ∷ []
  print_v (arith o a b) = arith_mark o ∷ (print_v a ++ print_v b)
  print_v (choice f a b) = 6 ∷ (print_f f ++ (print_v a ++ print_v b))
  print_v no_value = []

  pub print_f : Formula → List ℕ
  print_f (const b) = const_mark b ∷ []
  print_f (compare o a b) = compare_mark o ∷ (print_v a ++ print_v b)
  print_f (negation f) = 14 ∷ print_f f
  print_f (join o f g) = join_mark o ∷ (print_f f ++ print_f g)
  print_f no_formula = []
