-- Elements of a list by their number.
use mathlib.Core.Path.{◌≡◌, refl}
use mathlib.Core.List.{List, [], ◌∷◌}
use mathlib.Core.Bool.{Bool, ◌&&◌}
use mathlib.Core.Logic.{◌≢◌}
use native.Mathlib.Omega.{arith}
use Prim.Native.Nat.{ℕ, suc}
use Rattle.foundation.specs.Nth.{Nth, first, later, EachIs, each_b}
use Rattle.foundation.specs.Reflects.{Reflects, so}
use Rattle.foundation.proofs.Reflects.{by_and, by_iff, and_swap}

abbrev IsCons : {A : Type 0} → List A → Type 0
IsCons [] = ⊥
IsCons (x ∷ xs) = Unit {0}

is_cons : {A : Type 0} {xs : List A} {k : ℕ} {x : A} → Nth xs k x → IsCons xs
is_cons first = tt
is_cons (later h) = tt

-- the empty list has none
pub nth_nil : {A : Type 0} {k : ℕ} {x : A} → Nth [] k x → ⊥
nth_nil h = is_cons h

-- what is so of the head and of each in the tail is so of each
pub nth_cons : {A : Type 0} (P : A → Type 0) {y : A} {xs : List A} → P y → EachIs xs P → EachIs (y ∷ xs) P
nth_cons P py ps k x first = py
nth_cons P py ps k x (later {k = j} h) = ps j x h

-- numbers count from 1
pub nth_positive : {A : Type 0} {xs : List A} {k : ℕ} {x : A} → Nth xs k x → k ≢ 0
nth_positive first = omega arith
nth_positive (later h) = omega arith

pub by_each : {A : Type 0} (P : A → Type 0) (t : A → Bool) → ((x : A) → Reflects (P x) (t x)) → (xs : List A) → Reflects (EachIs xs P) (each_b t xs)
by_each P t says [] = so (λ k x at. absurd (nth_nil at))
by_each P t says (y ∷ ys) =
    by_iff (λ h. nth_cons P h.0 h.1) (λ h. (h 1 y first, λ k x at. h (suc k) x (later at))) (by_and (says y) (by_each P t says ys))

-- two tests at once
pub each_both : {A : Type 0} (t u : A → Bool) (xs : List A) → each_b (λ x. t x && u x) xs ≡ each_b t xs && each_b u xs
each_both t u [] = refl
each_both t u (x ∷ xs) = rw (each_both t u xs) (and_swap (t x) (u x) (each_b t xs) (each_b u xs))

pub each_alike : {A : Type 0} (t u : A → Bool) (xs : List A) → ((x : A) → t x ≡ u x) → each_b t xs ≡ each_b u xs
each_alike t u [] h = refl
each_alike t u (x ∷ xs) h = rw (h x, each_alike t u xs h)
