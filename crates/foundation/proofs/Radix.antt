-- Every number below the product of the sizes is that of exactly one list of values below the sizes, and the other way round.
use mathlib.Core.Path.{◌≡◌, refl, sym, ◌∙◌, ap}
use mathlib.Core.List.{List, [], ◌∷◌}
use Prim.Native.Nat.{ℕ, zero, suc, ◌*◌, ◌/◌, ◌%◌, ◌<◌}
use native.Mathlib.Omega.{arith}
use native.Mathlib.Nat.{div-add-mod', mod-lt, div-lt_iff_lt-mul, mul-zero, mul_comm, not-suc-le-zero, mod-eq_of_lt, div-one, div-div-eq-div-mul}
use lib.Arith.{digits_lt, digits_div, digits_mod, mod-mul}
use Rattle.foundation.specs.Radix.{Below, product, number_of, values_of, RadixLaw, split_of}

pub number_below : (zs vs : List ℕ) → Below zs vs → number_of zs vs < product zs
unfolding number_of
number_below [] [] b = omega arith
number_below [] (v ∷ vs) b = absurd b
number_below (z ∷ zs) [] b = absurd b
number_below (z ∷ zs) (v ∷ vs) b = digits_lt b.0 (number_below zs vs b.1)

pub values_of_number : (zs vs : List ℕ) → Below zs vs → values_of zs (number_of zs vs) ≡ vs
unfolding number_of values_of
values_of_number [] [] b = refl
values_of_number [] (v ∷ vs) b = absurd b
values_of_number (z ∷ zs) [] b = absurd b
values_of_number (z ∷ zs) (v ∷ vs) b =
    let l = number_below zs vs b.1 in
    rw (digits_div v l, digits_mod v l, values_of_number zs vs b.1)

positive : (n z p : ℕ) → n < z * p → 0 < p
positive n z zero l = absurd (not-suc-le-zero (rw (mul-zero z) at l))
positive n z (suc p) l = omega arith

pub values_below : (zs : List ℕ) (n : ℕ) → n < product zs → Below zs (values_of zs n)
unfolding values_of
values_below [] n l = tt
values_below (z ∷ zs) n l =
    let p = positive n z (product zs) l in
    ((div-lt_iff_lt-mul p).1 l, values_below zs (n % product zs) (mod-lt n p))

pub number_of_values : (zs : List ℕ) (n : ℕ) → n < product zs → number_of zs (values_of zs n) ≡ n
unfolding number_of values_of
number_of_values [] n l = omega arith
number_of_values (z ∷ zs) n l =
    rw (number_of_values zs (n % product zs) (mod-lt n (positive n z (product zs) l))) (div-add-mod' n (product zs))

pub radix_law : (zs : List ℕ) → RadixLaw zs
radix_law zs = record { number_below = number_below zs; values_below = values_below zs; values_of_number = values_of_number zs; number_of_values = number_of_values zs }

-- ---- the values, from the last on

both_positive : (z p : ℕ) → 0 < z * p → (0 < z) × (0 < p)
both_positive z p l = (positive 0 p z (rw (mul_comm z p) at l), positive 0 z p l)

pub split_left : (zs : List ℕ) (n : ℕ) → (split_of zs n).left ≡ n / product zs
unfolding split_of
split_left [] n = sym (div-one n)
split_left (z ∷ zs) n = rw (split_left zs n) (div-div-eq-div-mul n (product zs) z ∙ ap (λ m. n / m) (mul_comm (product zs) z))

pub split_values : (zs : List ℕ) (n : ℕ) → 0 < product zs → (split_of zs n).values ≡ values_of zs (n % product zs)
unfolding split_of values_of
split_values [] n l = refl
split_values (z ∷ zs) n l =
    let p = both_positive z (product zs) l in
    let r = mod-lt n p.1 in
    rw (split_left zs n, split_values zs n p.1, mod-mul n p.0 p.1, digits_div (n / product zs % z) r, digits_mod (n / product zs % z) r)

pub from_the_last : (zs : List ℕ) (n : ℕ) → n < product zs → (split_of zs n).values ≡ values_of zs n
from_the_last zs n l = split_values zs n (omega arith) ∙ ap (values_of zs) (mod-eq_of_lt l)
