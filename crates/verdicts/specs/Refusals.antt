-- The numbers by which a text or a call is turned down (01, "Turned down by the input", "Turned down by the state"; 02, orders 2 and 4), and
-- the other way round: the fault or the refusal that a number stands for.
use Rattle.std.specs.Prelude.{ℕ, cond, eqb, List, [], ◌∷◌, Result, Ok, Err}
use Rattle.verdicts.specs.declared.Fault.{Fault}
use Rattle.verdicts.specs.declared.Fault.TheVariants.{TooLong, Columns, Fields, Layout, Bounds, Terms, Actions}
use Rattle.verdicts.specs.declared.Refusal.{Refusal}
use Rattle.verdicts.specs.declared.Refusal.TheVariants.{Text, NoStates, Empty, NotEmpty, Open, Decided, NotAllTrue, NoRoom, FewPlaces, NotMeasurable}

-- the faults of a text, 1 to 7
abbrev pub fault_number : Fault → ℕ
fault_number TooLong = 1
fault_number Columns = 2
fault_number Fields = 3
fault_number Layout = 4
fault_number Bounds = 5
fault_number Terms = 6
fault_number Actions = 7

-- a call
abbrev pub number_of : Refusal → ℕ
number_of (Text f) = fault_number f
number_of NoStates = 8
number_of Empty = 11
number_of NotEmpty = 12
number_of Open = 13
number_of Decided = 14
number_of NotAllTrue = 15
number_of NoRoom = 16
number_of FewPlaces = 17
number_of NotMeasurable = 18

-- the number of the fault that is found; 0 where there is none
abbrev pub fault_found : {A : Type 0} → Result A Fault → ℕ
fault_found (Ok a) = 0
fault_found (Err f) = fault_number f

-- the number by which a call is turned down; 0 where it isn't
abbrev pub refusal_found : {A : Type 0} → Result A Refusal → ℕ
refusal_found (Ok a) = 0
refusal_found (Err r) = number_of r

-- ---- by number

-- the first of these with number k; x where there is none
abbrev pub numbered : {A : Type 0} → (A → ℕ) → A → List A → ℕ → A
numbered f x [] k = x
numbered f x (y ∷ ys) k = cond (eqb (f y) k) y (numbered f x ys k)

abbrev pub faults : List Fault
faults = TooLong ∷ Columns ∷ Fields ∷ Layout ∷ Bounds ∷ Terms ∷ Actions ∷ []

-- the fault of a number of 1 to 7
unfoldable pub fault_by : ℕ → Fault
fault_by k = numbered fault_number TooLong faults k
