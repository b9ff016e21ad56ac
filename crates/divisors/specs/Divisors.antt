-- What could leave a term without a value, as far as a look at its marks tells, and what is answered for one that was read from the place
-- `at` on. That a term has a value wherever that is not so, for every sum value below 256, is in proofs/Divisors.
--
-- It is a set, told by the binary digits of a number: 1 for one of the first eight parameters being large, 32,768 or more; 2 to 256 for each
-- of these being 0; 512 for anything else, which is always so. What is left of the number by 1,024 is 0, or names one term whose being 0 is
-- in the set too: a difference or remainder of two leaves, each one of these parameters or a number below 1,016.
use Rattle.std.specs.Prelude.{Bool, true, not, ◌&&◌, ◌||◌, cond, List, ℕ, zero, suc, ◌+◌, ◌-◌, ◌*◌, ◌/◌, ◌%◌, ◌^◌, max, eqb, ltb, get_or}
use Rattle.std.specs.Int.Bits.{bit_and, bit_or}
use Rattle.limits.specs.Limits.{max_parameters}
use Rattle.terms.specs.Tree.{Value, Formula, num, par, sum_value, arith, choice, const, compare, negation, join, no_value, no_formula, arith_of}
use Rattle.terms.specs.Read.{Read}
use Rattle.terms.specs.declared.Arith.{Arith}
use Rattle.terms.specs.declared.Arith.TheVariants.{Sum, Difference, Remainder}
use Rattle.terms.specs.declared.Compare.{Compare}
use Rattle.terms.specs.declared.Compare.TheVariants.{Equal, Less}
use Rattle.terms.specs.declared.Join.{Join}
use Rattle.terms.specs.declared.Join.TheVariants.{And, Or}
use Rattle.divisors.specs.declared.Looked.{Looked}
use Rattle.divisors.specs.declared.Known.{Known}
use Rattle.divisors.specs.declared.Guards.{Guards}

-- ---- the sets

abbrev pub nothing : ℕ
nothing = 0

abbrev pub large : ℕ
large = 1

abbrev pub other : ℕ
other = 512

-- the first n parameters are not large
unfoldable pub small_to : ℕ → List ℕ → Bool
small_to zero ps = true
small_to (suc n) ps = small_to n ps && ltb (get_or ps n 0) 32768

abbrev pub small_at : List ℕ → Bool
small_at ps = small_to max_parameters ps

-- what is so at the parameter values ps, with those of the first n parameters that are 0
unfoldable pub so_to : ℕ → List ℕ → ℕ
so_to zero ps = bit_or other (cond (not (small_at ps)) large 0)
so_to (suc n) ps = bit_or (so_to n ps) (cond (eqb (get_or ps n 0) 0) (2 ^ (n + 1)) 0)

abbrev pub so_at : List ℕ → ℕ
so_at ps = so_to max_parameters ps

-- the term t, and its leaves: parameters from 0 on, numbers from 8 on
unfoldable pub leaf_at : ℕ → List ℕ → ℕ
leaf_at x ps = cond (ltb x max_parameters) (get_or ps x 0) (x - max_parameters)

unfoldable pub operation_of : ℕ → Arith
operation_of t = cond (ltb t 2097152) Difference Remainder

unfoldable pub term_at : ℕ → List ℕ → ℕ
term_at t ps = arith_of (operation_of t) (leaf_at (t / 1024 % 1024) ps) (leaf_at (t % 1024) ps)

-- there is none, or it is not 0
unfoldable pub quiet_at : ℕ → List ℕ → Bool
quiet_at t ps = eqb t 0 || not (eqb (term_at t ps) 0)

-- none of them is so at the parameter values ps
unfoldable pub safe_at : ℕ → List ℕ → Bool
safe_at c ps = eqb (bit_and c (so_at ps)) 0 && quiet_at (c / 1024) ps

-- the set of a term's being 0, by its operation (1 a difference, 2 a remainder) and leaves; another where one of these has no number
unfoldable pub term_or : ℕ → ℕ → ℕ → ℕ → ℕ
term_or c o x y = cond (ltb x 1024 && ltb y 1024) ((o * 1048576 + x * 1024 + y) * 1024) c

-- two sets name no two terms
unfoldable pub agree : ℕ → ℕ → Bool
agree a b = eqb (a / 1024) 0 || (eqb (b / 1024) 0 || eqb (a / 1024) (b / 1024))

-- of one or the other of two terms; where they don't agree, that is anything
unfoldable pub both : ℕ → ℕ → ℕ
both a b = bit_or (bit_or a b) (cond (agree a b) nothing other)

-- what is known not to be so by one or the other of two formulas; where they don't agree, without the second's term
unfoldable pub either : ℕ → ℕ → ℕ
either g h = bit_or g (cond (agree g h) h (h % 1024))

-- nothing, or nothing but a large parameter
unfoldable pub never : ℕ → Bool
never c = ltb c 2

-- what makes one of two values 0 where no parameter is large: the less of them
unfoldable pub least : ℕ → ℕ → ℕ
least a b = cond (ltb a b) (bit_or a large) (bit_or b large)

-- known only where something is so, else it could be anything; and said only where something is so, else nothing is
unfoldable pub only_if : Bool → ℕ → ℕ
only_if so c = cond so c other

unfoldable pub known_if : Bool → ℕ → ℕ
known_if so g = cond so g nothing

-- what two sets have in common, terms only where they are the same; and without those that are known not to be so where no parameter is large
unfoldable pub common : ℕ → ℕ → ℕ
common c g = bit_and c (cond (eqb (c / 1024) (g / 1024)) g (g % 1024))

unfoldable pub spared : ℕ → ℕ → ℕ
spared c g = cond (eqb (common c g) 0) c (bit_or (c - common c g) large)

-- ---- the largest that a value can be

-- where no parameter is large and the sum value is below 256; 65,536 where that is not known
abbrev pub unknown : ℕ
unknown = 65536

unfoldable pub parameter_most : ℕ → ℕ
parameter_most i = cond (ltb i max_parameters) 32767 unknown

-- not known where it could be taken modulo 65,536
unfoldable pub sum_most : ℕ → ℕ → ℕ
sum_most x y = cond (ltb (x + y) unknown) (x + y) unknown

-- a remainder, and what stands for one by zero, is at most the first number
unfoldable pub most_v : Value → ℕ
most_v (num n) = n
most_v (par i) = parameter_most i
most_v sum_value = 255
most_v (arith Sum a b) = sum_most (most_v a) (most_v b)
most_v (arith Difference a b) = unknown
most_v (arith Remainder a b) = most_v a
most_v (choice f a b) = max (most_v a) (most_v b)
most_v no_value = unknown

-- ---- what could make a value 0

unfoldable pub by_parameter : ℕ → ℕ
by_parameter i = only_if (ltb i max_parameters) (2 ^ (i + 1))

-- the number of a leaf in a term; 1,024 where it has none
unfoldable pub leaf_v : Value → ℕ
leaf_v (num n) = cond (ltb n 1016) (n + max_parameters) 1024
leaf_v (par i) = cond (ltb i max_parameters) i 1024
leaf_v sum_value = 1024
leaf_v (arith o a b) = 1024
leaf_v (choice f a b) = 1024
leaf_v no_value = 1024

-- the set of a value's being 0, where it has one
unfoldable pub named_v : Value → ℕ
named_v (num n) = nothing
named_v (par i) = known_if (ltb i max_parameters) (2 ^ (i + 1))
named_v sum_value = nothing
named_v (arith Sum a b) = nothing
named_v (arith Difference a b) = term_or nothing 1 (leaf_v a) (leaf_v b)
named_v (arith Remainder a b) = term_or nothing 2 (leaf_v a) (leaf_v b)
named_v (choice f a b) = nothing
named_v no_value = nothing

-- What could make a value 0: a sum that is not taken modulo 65,536 is 0 only if both its values are; a choice is spared what its formula
-- says. And what is not so where a formula holds (yes_f) or fails (no_f) and no parameter is large: that a value is 0 which is more than some
-- other, which differs from 0, or which is not less than what is never 0.
unfoldable mutual
  pub zero_v : Value → ℕ
  zero_v (num n) = cond (eqb n 0) other nothing
  zero_v (par i) = by_parameter i
  zero_v sum_value = other
  zero_v (arith Sum a b) = only_if (ltb (most_v (arith Sum a b)) unknown) (least (zero_v a) (zero_v b))
  zero_v (arith Difference a b) = term_or other 1 (leaf_v a) (leaf_v b)
  zero_v (arith Remainder a b) = term_or other 2 (leaf_v a) (leaf_v b)
  zero_v (choice f a b) = both (spared (zero_v a) (yes_f f)) (spared (zero_v b) (no_f f))
  zero_v no_value = other

  pub yes_f : Formula → ℕ
  yes_f (const b) = nothing
  yes_f (compare Equal a b) = nothing
  yes_f (compare Less a b) = named_v b
  yes_f (negation f) = no_f f
  yes_f (join And f g) = either (yes_f f) (yes_f g)
  yes_f (join Or f g) = nothing
  yes_f no_formula = nothing

  pub no_f : Formula → ℕ
  no_f (const b) = nothing
  no_f (compare Equal a b) = either (known_if (eqb (most_v b) 0) (named_v a)) (known_if (eqb (most_v a) 0) (named_v b))
  no_f (compare Less a b) = known_if (never (zero_v b)) (named_v a)
  no_f (negation f) = yes_f f
  no_f (join And f g) = nothing
  no_f (join Or f g) = either (no_f f) (no_f g)
  no_f no_formula = nothing

-- ---- what could leave a term without a value

-- an operation, by what could make its second number 0
abbrev pub by_operation : Arith → ℕ → ℕ
by_operation Sum z = nothing
by_operation Difference z = nothing
by_operation Remainder z = z

-- that which could make 0 of the second value of a `5` in it; a branch is spared what the formula says
unfoldable mutual
  pub divides_v : Value → ℕ
  divides_v (num n) = nothing
  divides_v (par i) = nothing
  divides_v sum_value = nothing
  divides_v (arith o a b) = both (both (divides_v a) (divides_v b)) (by_operation o (zero_v b))
  divides_v (choice f a b) = both (divides_f f) (both (spared (divides_v a) (yes_f f)) (spared (divides_v b) (no_f f)))
  divides_v no_value = other

  pub divides_f : Formula → ℕ
  divides_f (const b) = nothing
  divides_f (compare o a b) = both (divides_v a) (divides_v b)
  divides_f (negation f) = divides_f f
  divides_f (join o f g) = both (divides_f f) (divides_f g)
  divides_f no_formula = other

-- ---- what is answered

-- what could leave it without a value, and the place after it
abbrev pub looked_v : ℕ → Read Value → Looked
looked_v at r = record { divides = divides_v r.tree; next = at + r.used }

abbrev pub looked_f : ℕ → Read Formula → Looked
looked_f at r = record { divides = divides_f r.tree; next = at + r.used }

-- what is known of a value besides, and of an operation, by what is known of its two values
abbrev pub known_of : Value → Known
known_of t = record { zero = zero_v t; most = most_v t; named = named_v t; leaf = leaf_v t }

abbrev pub operation_known : Arith → Known → Known → Known
operation_known Sum a b =
    let m : ℕ = sum_most a.most b.most in
    record { zero = only_if (ltb m unknown) (least a.zero b.zero); most = m; named = nothing; leaf = 1024 }
operation_known Difference a b =
    record { zero = term_or other 1 a.leaf b.leaf; most = unknown; named = term_or nothing 1 a.leaf b.leaf; leaf = 1024 }
operation_known Remainder a b =
    record { zero = term_or other 2 a.leaf b.leaf; most = a.most; named = term_or nothing 2 a.leaf b.leaf; leaf = 1024 }

-- and of a formula
abbrev pub guards_of : Formula → Guards
guards_of t = record { yes = yes_f t; no = no_f t }

abbrev pub comparison_guards : Compare → Known → Known → Guards
comparison_guards Equal a b =
    record { yes = nothing; no = either (known_if (eqb b.most 0) a.named) (known_if (eqb a.most 0) b.named) }
comparison_guards Less a b = record { yes = b.named; no = known_if (never b.zero) a.named }

abbrev pub join_guards : Join → Guards → Guards → Guards
join_guards And f g = record { yes = either f.yes g.yes; no = nothing }
join_guards Or f g = record { yes = nothing; no = either f.no g.no }
