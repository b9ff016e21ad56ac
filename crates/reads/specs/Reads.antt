-- Which parameters a term reads, and where two states differ: sets of the first eight parameters, told by the binary digits of a number, the
-- first parameter's the lowest. No list of values here has more than eight. That a term has one value at two states which do not differ in
-- what it reads is in proofs/Alike.
use Rattle.std.specs.Prelude.{Bool, false, cond, List, ℕ, zero, suc, ◌+◌, ◌^◌, eqb, ltb, get_or}
use Rattle.std.specs.Int.Bits.{bit_or}
use Rattle.limits.specs.Limits.{max_parameters}
use Rattle.terms.specs.Tree.{Value, Formula, num, par, sum_value, arith, choice, const, compare, negation, join, no_value, no_formula}
use Rattle.terms.specs.Read.{Read}
use Rattle.reads.specs.declared.Seen.{Seen}

-- the set of one parameter; past the eighth there is none to read
unfoldable pub only : ℕ → ℕ
only i = cond (ltb i max_parameters) (2 ^ i) 0

-- each `1 i` in it
unfoldable mutual
  pub reads_v : Value → ℕ
  reads_v (num n) = 0
  reads_v (par i) = only i
  reads_v sum_value = 0
  reads_v (arith o a b) = bit_or (reads_v a) (reads_v b)
  reads_v (choice f a b) = bit_or (reads_f f) (bit_or (reads_v a) (reads_v b))
  reads_v no_value = 0

  pub reads_f : Formula → ℕ
  reads_f (const b) = 0
  reads_f (compare o a b) = bit_or (reads_v a) (reads_v b)
  reads_f (negation f) = reads_f f
  reads_f (join o f g) = bit_or (reads_f f) (reads_f g)
  reads_f no_formula = 0

-- what the term reads, and the place after it
abbrev pub seen_v : ℕ → Read Value → Seen
seen_v at r = record { reads = reads_v r.tree; next = at + r.used }

abbrev pub seen_f : ℕ → Read Formula → Seen
seen_f at r = record { reads = reads_f r.tree; next = at + r.used }

-- ---- where two states differ

-- in which of the first n parameters
unfoldable pub differ_to : ℕ → List ℕ → List ℕ → ℕ
differ_to zero v w = 0
differ_to (suc n) v w = bit_or (differ_to n v w) (cond (eqb (get_or v n 0) (get_or w n 0)) 0 (only n))

unfoldable pub differ : List ℕ → List ℕ → ℕ
differ v w = differ_to max_parameters v w

-- ---- the term `1 j`

unfoldable pub is_par : ℕ → Value → Bool
is_par j (num n) = false
is_par j (par i) = eqb i j
is_par j sum_value = false
is_par j (arith o a b) = false
is_par j (choice f a b) = false
is_par j no_value = false
