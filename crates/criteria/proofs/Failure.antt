-- Laws of the order of failures: 01's sentence on it, part by part, and that a turn says which failure has it.
use mathlib.Core.Path.{◌≡◌, refl, ap}
use mathlib.Core.Logic.{◌≢◌, inl, inr}
use Prim.Native.Nat.{ℕ, ◌<◌}
use native.Mathlib.Omega.{arith}
use borrow.Author.Tests.{ne_eqb}
use lib.ListN.{get_or}
use Rattle.foundation.specs.Lowest.{Lower}
use Rattle.foundation.specs.Trial.{Place, place_turn}
use Rattle.foundation.proofs.Lowest.{Turns}
use Rattle.criteria.specs.Design.{Design}
use Rattle.criteria.specs.Failure.{Failure, stage, late, turn, start_failure, failure_at}

pub after_start : (x : Failure) → x.criterion ≢ 1 → stage x ≡ 1
after_start x n = rw (ne_eqb x.criterion 1 n)

-- "Criterion 1 comes before state 0"
pub start_first : (d : Design) (y : Failure) → y.criterion ≢ 1 → Lower (turn (start_failure d)) (turn y)
start_first d y n = inl (rw (after_start y n) (omega arith))

module _ (n m : ℕ) (x y : Place) (p : x.criterion ≢ 1) (q : y.criterion ≢ 1) where
  both_after : stage (failure_at n x) ≡ stage (failure_at m y)
  both_after = rw (after_start (failure_at n x) p, after_start (failure_at m y) q)

  -- "Then states rise"
  pub states_rise : n < m → Lower (turn (failure_at n x)) (turn (failure_at m y))
  states_rise l = inr (both_after, inl l)

  -- "criterion 10 is tried before the rest in each state"
  pub tenth_first : n ≡ m → x.criterion ≡ 10 → y.criterion ≢ 10 → Lower (turn (failure_at n x)) (turn (failure_at m y))
  tenth_first e c k = inr (both_after, inr (e, inl (rw (c, ne_eqb y.criterion 10 k) (omega arith))))

  -- "within a state criteria, rows and sum values rise"
  pub criteria_rise : n ≡ m → x.criterion ≢ 10 → y.criterion ≢ 10 → x.criterion < y.criterion → Lower (turn (failure_at n x)) (turn (failure_at m y))
  criteria_rise e j k l = inr (both_after, inr (e, inr (rw (ne_eqb x.criterion 10 j, ne_eqb y.criterion 10 k), inl l)))

  pub rows_rise : n ≡ m → x.criterion ≡ y.criterion → x.row < y.row → Lower (turn (failure_at n x)) (turn (failure_at m y))
  rows_rise e c l = inr (both_after, inr (e, inr (ap late c, inr (c, inl l))))

  pub sums_rise : n ≡ m → x.criterion ≡ y.criterion → x.row ≡ y.row → x.sum < y.sum → Lower (turn (failure_at n x)) (turn (failure_at m y))
  sums_rise e c k l = inr (both_after, inr (e, inr (ap late c, inr (c, inr (k, inl l)))))

  -- and nothing else makes one lower
  pub data Earlier : Type 0 where
    by_state : n < m → Earlier
    by_tenth : n ≡ m → late x.criterion < late y.criterion → Earlier
    by_place : n ≡ m → late x.criterion ≡ late y.criterion → Lower (place_turn x) (place_turn y) → Earlier

  pub earlier : Lower (turn (failure_at n x)) (turn (failure_at m y)) → Earlier
  earlier (inl l) = let e = both_after in absurd (omega arith)
  earlier (inr (s, inl l)) = by_state l
  earlier (inr (s, inr (e, inl l))) = by_tenth e l
  earlier (inr (s, inr (e, inr (t, l)))) = by_place e t l

-- nothing comes before the start
pub start_lowest : (d : Design) (n : ℕ) (x : Place) → x.criterion ≢ 1 → Lower (turn (failure_at n x)) (turn (start_failure d)) → ⊥
start_lowest d n x p (inl l) = let e = after_start (failure_at n x) p in omega arith
start_lowest d n x p (inr (s, l)) = let e = after_start (failure_at n x) p in omega arith

-- a failure's turn says which failure it is
pub failure_turns : Turns turn
failure_turns = record { same_length = λ x y. refl; tells = tells }
  where
    tells : (x y : Failure) → turn x ≡ turn y → x ≡ y
    tells x y h = λ i. record { state = get_or (h i) 1 0; criterion = get_or (h i) 3 0; row = get_or (h i) 4 0; sum = get_or (h i) 5 0 }
