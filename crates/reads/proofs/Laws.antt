-- What the functions return is what their contracts say: a law for each place where they return, its premises what the code knows there. The
-- law of reading itself is in Alike.
use mathlib.Core.Path.{◌≡◌, refl, ap}
use mathlib.Core.Bool.{Bool, true, false, cond}
use mathlib.Core.List.{List, [], ◌∷◌}
use Prim.Native.Nat.{ℕ, zero, suc, ◌+◌, ◌*◌, ◌%◌, ◌^◌, ◌<◌, ◌≤◌}
use native.Mathlib.Omega.{arith}
use borrow.Author.Tests.{le-ltb, ne_eqb}
use lib.Bits.{bit_or}
use lib.Dec.{eqb}
use lib.ListN.{length, get_or, drop, drop_of_length-le}
use lib.Seq.{drop-cons}
use Rattle.terms.specs.Mark.{value_mark}
use Rattle.terms.specs.Read.{read_v, read_f, value_by}
use Rattle.terms.proofs.Read.{step_v}
use Rattle.terms.specs.declared.Arith.TheVariants.{Sum, Difference, Remainder}
use Rattle.terms.specs.declared.ValueMark.{ValueMark}
use Rattle.terms.specs.declared.ValueMark.TheVariants as vm
use Rattle.reads.specs.Reads.{only, differ_to, differ, is_par}

-- ---- the sets

pub only_there : (i : ℕ) → i < 8 → 1 * 2 ^ i % 65536 ≡ only i
unfolding only
only_there zero l = refl
only_there (suc zero) l = refl
only_there (suc (suc zero)) l = refl
only_there (suc (suc (suc zero))) l = refl
only_there (suc (suc (suc (suc zero)))) l = refl
only_there (suc (suc (suc (suc (suc zero))))) l = refl
only_there (suc (suc (suc (suc (suc (suc zero)))))) l = refl
only_there (suc (suc (suc (suc (suc (suc (suc zero))))))) l = refl
only_there (suc (suc (suc (suc (suc (suc (suc (suc i)))))))) l = omega arith

pub only_none : (i : ℕ) → 8 ≤ i → 0 ≡ only i
unfolding only
only_none i l = rw (le-ltb i 8 l)

module _ (v w : List ℕ) where
  pub differ_begin : 0 ≡ differ_to 0 v w
  unfolding differ_to
  differ_begin = refl

  pub differ_turn : (i z x y one m : ℕ) → x ≡ get_or v i 0 → y ≡ get_or w i 0 → one ≡ only i → m ≡ cond (eqb x y) 0 one → z ≡ differ_to i v w
      → bit_or z m ≡ differ_to (i + 1) v w
  unfolding differ_to
  differ_turn i z x y one m ex ey eo em ez = let e : suc i ≡ i + 1 = omega arith in rw (em, ex, ey, eo, ez) (ap (λ n. differ_to n v w) e)

  pub differ_end : (i z : ℕ) → i ≤ 8 → 8 ≤ i → z ≡ differ_to i v w → z ≡ differ v w
  unfolding differ
  differ_end i z l h ez = let e : i ≡ 8 = omega arith in rw (← e) ez

-- ---- the term `1 j`

module _ (s : List ℕ) (at j : ℕ) where
  abbrev is_at : Bool
  is_at = is_par j (read_v 32 (drop at s)).tree

  pub not_past : length s ≤ at → false ≡ is_at
  unfolding read_v is_par
  not_past h = rw (drop_of_length-le s h)

  pub not_short : at < length s → length s ≤ at + 1 → false ≡ is_at
  unfolding is_par
  not_short inside h = rw (step_v s at 32 (λ e. omega arith) inside, drop_of_length-le s h) (go (value_mark (get_or s at 0)))
    where
      go : (w : ValueMark) → false ≡ is_par j (value_by w (λ l. read_v 31 l) (λ l. read_f 31 l) []).tree
      go vm.Number = refl
      go vm.Parameter = refl
      go vm.SumValue = refl
      go (vm.Arithmetic o) = refl
      go vm.Choice = refl
      go vm.Wrong = refl

  pub not_mark : at < length s → at + 1 < length s → (get_or s at 0 ≡ 1 → ⊥) → false ≡ is_at
  unfolding is_par value_mark
  not_mark inside h n =
      rw (step_v s at 32 (λ e. omega arith) inside, ne_eqb (get_or s at 0) 1 n, drop-cons s (at + 1) 0 h)
      (go (eqb (get_or s at 0) 0) (eqb (get_or s at 0) 2) (eqb (get_or s at 0) 3) (eqb (get_or s at 0) 4) (eqb (get_or s at 0) 5) (eqb (get_or s at 0) 6) (get_or s (at + 1) 0) _)
    where
      -- a mark, by the tests that it passes
      by : Bool → Bool → Bool → Bool → Bool → Bool → ValueMark
      by number sum plus minus modulo choice =
          cond number vm.Number
          (cond sum vm.SumValue
          (cond plus (vm.Arithmetic Sum)
          (cond minus (vm.Arithmetic Difference)
          (cond modulo (vm.Arithmetic Remainder)
          (cond choice vm.Choice vm.Wrong)))))

      go : (a b c d e f : Bool) (x : ℕ) (l : List ℕ) → false ≡ is_par j (value_by (by a b c d e f) (λ l. read_v 31 l) (λ l. read_f 31 l) (x ∷ l)).tree
      go true b c d e f x l = refl
      go false true c d e f x l = refl
      go false false true d e f x l = refl
      go false false false true e f x l = refl
      go false false false false true f x l = refl
      go false false false false false true x l = refl
      go false false false false false false x l = refl

  pub by_number : at < length s → at + 1 < length s → get_or s at 0 ≡ 1 → eqb (get_or s (at + 1) 0) j ≡ is_at
  unfolding is_par value_mark
  by_number inside h e = rw (step_v s at 32 (λ e. omega arith) inside, e, drop-cons s (at + 1) 0 h)
