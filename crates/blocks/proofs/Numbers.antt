-- Numbers in blocks. In mixed radix, numbers that have the same quotient by the product of the sizes after some value have the same values up to
-- it; and those are the numbers of one block, which starts and ends at a multiple of that product.
use mathlib.Core.Path.{◌≡◌, refl, sym, ◌∙◌, ap}
use mathlib.Core.List.{List, [], ◌∷◌}
use Prim.Native.Nat.{ℕ, zero, suc, ◌+◌, ◌-◌, ◌*◌, ◌/◌, ◌%◌, ◌≤◌, ◌<◌}
use native.Mathlib.Omega.{arith}
use native.Mathlib.Nat.{mul_comm, mul_assoc, one-mul, add-mul, mod-lt, div-add-mod', div-lt_iff_lt-mul, div-div-eq-div-mul, mul-le-mul_right}
use lib.Arith.{digits_div}
use lib.ListN.{length, get_or, take, drop}
use Rattle.foundation.specs.Radix.{product, split_of}
use Rattle.foundation.proofs.Radix.{split_left}

-- ---- sizes

pub product_parts : (zs : List ℕ) (j : ℕ) → product zs ≡ product (take j zs) * product (drop j zs)
product_parts zs zero = sym (one-mul (product zs))
product_parts [] (suc j) = refl
product_parts (z ∷ zs) (suc j) = ap (λ p. z * p) (product_parts zs j) ∙ sym (mul_assoc z (product (take j zs)) (product (drop j zs)))

-- some of the last sizes
pub some_positive : (zs : List ℕ) (j : ℕ) → 0 < product zs → 0 < product (drop j zs)
some_positive zs j l = go (product (drop j zs)) (product_parts zs j)
  where
    go : (w : ℕ) → product zs ≡ product (take j zs) * w → 0 < w
    go zero e = omega arith
    go (suc w) e = omega arith

pub some_few : (zs : List ℕ) (j : ℕ) → 0 < product zs → product (drop j zs) ≤ product zs
some_few zs j l = go (product (take j zs)) (product_parts zs j)
  where
    go : (q : ℕ) → product zs ≡ q * product (drop j zs) → product (drop j zs) ≤ product zs
    go zero e = omega arith
    go (suc q) e = let k = mul-le-mul_right {m = 1} {n = suc q} (product (drop j zs)) (omega arith) in omega arith

-- ---- values

by_size : (n z p : ℕ) → n / (z * p) ≡ n / p / z
by_size n z p = ap (λ m. n / m) (mul_comm z p) ∙ sym (div-div-eq-div-mul n p z)

quotient_by_all : (zs : List ℕ) (j n k : ℕ) → n / product (drop j zs) ≡ k / product (drop j zs) → n / product zs ≡ k / product zs
quotient_by_all zs zero n k e = e
quotient_by_all [] (suc j) n k e = e
quotient_by_all (z ∷ zs) (suc j) n k e =
    by_size n z (product zs) ∙ ap (λ q. q / z) (quotient_by_all zs j n k e) ∙ sym (by_size k z (product zs))

pub same_values : (zs : List ℕ) (j i n k : ℕ) → i < j → n / product (drop j zs) ≡ k / product (drop j zs)
    → get_or (split_of zs n).values i 0 ≡ get_or (split_of zs k).values i 0
unfolding split_of
same_values [] j i n k l e = refl
same_values (z ∷ zs) zero i n k l e = absurd (omega arith)
same_values (z ∷ zs) (suc j) zero n k l e = ap (λ q. q % z) (split_left zs n ∙ quotient_by_all zs j n k e ∙ sym (split_left zs k))
same_values (z ∷ zs) (suc j) (suc i) n k l e = same_values zs j i n k (omega arith) e

pub split_length : (zs : List ℕ) (n : ℕ) → length (split_of zs n).values ≡ length zs
unfolding split_of
split_length [] n = refl
split_length (z ∷ zs) n = ap suc (split_length zs n)

-- ---- the block of a number

module _ (n w : ℕ) (some : 0 < w) where
  abbrev next : ℕ
  next = (n / w + 1) * w

  starts : next ≡ n / w * w + w
  starts = add-mul (n / w) 1 w ∙ omega arith

  pub next_is : n - n % w + (w - 1) + 1 ≡ (n / w + 1) * w
  next_is = let e = starts in let m = div-add-mod' n w in omega arith

  pub next_after : n < (n / w + 1) * w
  next_after = let e = starts in let m = div-add-mod' n w in let l = mod-lt n some in omega arith

  -- up to the next multiple the quotient is the same
  pub same_quotient : (k : ℕ) → n ≤ k → k < (n / w + 1) * w → k / w ≡ n / w
  same_quotient k l h =
      let s = starts in
      let m = div-add-mod' n w in
      let e : k ≡ n / w * w + (k - n / w * w) = omega arith in
      ap (λ x. x / w) e ∙ digits_div (n / w) {m = w} {r = k - n / w * w} (omega arith)

  -- it is no further than a multiple that is after n
  pub next_within : (q : ℕ) → n < q * w → (n / w + 1) * w ≤ q * w
  next_within q l = let k = (div-lt_iff_lt-mul some).1 l in mul-le-mul_right w (omega arith)
