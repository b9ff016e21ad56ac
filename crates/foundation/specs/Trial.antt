-- What is tried at one state: criteria, of each its rows, of each its sum values; where it fails; and the search in that order.
-- Laws: proofs/Trial.
use Rattle.std.specs.Prelude.{◌≡◌, Bool, true, List, [], ◌∷◌, ℕ, ◌<◌}
use Rattle.verdicts.specs.declared.Place as words
use Rattle.foundation.specs.First.{Outcome, fail_if, first_in}

-- a place of failure
abbrev pub Place : Type 0
Place = words.Place

abbrev pub place : ℕ → ℕ → ℕ → Place
place c k e = record { criterion = c; row = k; sum = e }

-- "criteria, rows and sum values rise"
abbrev pub place_turn : Place → List ℕ
place_turn x = x.criterion ∷ x.row ∷ x.sum ∷ []

-- what is tried: the criteria below `criteria`, of each the rows below `rows`, of each the sum values below `sums`; `test` says
-- that it fails
pub record Trial : Type 0 where
  pub criteria : ℕ
  pub rows : ℕ → ℕ
  pub sums : ℕ → ℕ → ℕ
  pub test : ℕ → ℕ → ℕ → Bool

-- the place is tried, and fails
pub record FailsIn (t : Trial) (x : Place) : Type 0 where
  pub criterion : x.criterion < t.criteria
  pub row : x.row < t.rows x.criterion
  pub sum : x.sum < t.sums x.criterion x.row
  pub test : t.test x.criterion x.row x.sum ≡ true

-- the search in the rows below `rows`, in each the sum values below `sums`: the first that fails by `test`, as `name` names it
abbrev pub first_place : {A : Type 0} → ℕ → (ℕ → ℕ) → (ℕ → ℕ → Bool) → (ℕ → ℕ → A) → Outcome A
first_place rows sums test name = first_in (λ k. first_in (λ e. fail_if (test k e) (name k e)) (sums k) 0) rows 0

-- and in the criteria
abbrev pub in_criterion : Trial → ℕ → Outcome Place
in_criterion t c = first_place (t.rows c) (t.sums c) (t.test c) (place c)

abbrev pub first_of : Trial → Outcome Place
first_of t = first_in (λ c. in_criterion t c) t.criteria 0
