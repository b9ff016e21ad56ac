-- Failures: what one is, the order in which they are compared, which there are in a design, and which is the lowest (01, "Nine
-- criteria"; 02, order 5; 00, demand 2). How the lowest is found is not here.
use Rattle.std.specs.Prelude.{List, [], ◌∷◌, cond, ℕ, eqb}
use Rattle.verdicts.specs.declared.Failure as words
use Rattle.foundation.specs.Lowest.{Lowest}
use Rattle.foundation.specs.Trial.{Place, place}
use Rattle.criteria.specs.Design.{Design, Row, State, RowIs, InSize, InvariantState, initial_state, state_number}
use Rattle.criteria.specs.Criteria.{Criterion1, Criterion2, Criterion3, Criterion4, Criterion5, Criterion6, Criterion7, Criterion8, Criterion9, Criterion10}

-- the state by its number
abbrev pub Failure : Type 0
Failure = words.Failure

-- "Criterion 1 comes before state 0": 0 for the start, 1 for any other
abbrev pub stage : Failure → ℕ
stage x = cond (eqb x.criterion 1) 0 1

-- "New criterion 10 is tried before the rest in each state": 0 for it, 1 for any other
abbrev pub late : ℕ → ℕ
late c = cond (eqb c 10) 0 1

-- what failures are compared by, the first difference deciding: the failed start before all, "Then states rise; within a state
-- criteria, rows and sum values rise", 10 before the rest.
abbrev pub turn : Failure → List ℕ
turn x = stage x ∷ x.state ∷ late x.criterion ∷ x.criterion ∷ x.row ∷ x.sum ∷ []

-- criterion, row and sum value of a failure at a state. "In criterion 7 the row is the specification's. Criteria 1 and 2 report
-- row 0 and sum value 0."
pub data FailsAt (d : Design) (s : State) : Place → Type 0 where
  second : (Criterion2 d s → ⊥) → FailsAt d s (place 2 0 0)
  third : {k e : ℕ} {r : Row} → RowIs d.impl.rows k r → (Criterion3 d s r e → ⊥) → FailsAt d s (place 3 k e)
  fourth : {k e : ℕ} {r : Row} → RowIs d.impl.rows k r → (Criterion4 d s r e → ⊥) → FailsAt d s (place 4 k e)
  fifth : {k e : ℕ} {r : Row} → RowIs d.impl.rows k r → (Criterion5 d s k r e → ⊥) → FailsAt d s (place 5 k e)
  sixth : {k e : ℕ} {r : Row} → RowIs d.impl.rows k r → (Criterion6 d s r e → ⊥) → FailsAt d s (place 6 k e)
  seventh : {k e : ℕ} {q : Row} → RowIs d.spec.rows k q → (Criterion7 d s q e → ⊥) → FailsAt d s (place 7 k e)
  eighth : {k e : ℕ} {r : Row} → RowIs d.impl.rows k r → (Criterion8 d s r e → ⊥) → FailsAt d s (place 8 k e)
  ninth : {k e : ℕ} {r : Row} → RowIs d.impl.rows k r → (Criterion9 d s r e → ⊥) → FailsAt d s (place 9 k e)

-- the failed start: "criterion 1 reports the initial state"
abbrev pub start_failure : Design → Failure
start_failure d = record { criterion = 1; state = state_number d (initial_state d.impl); row = 0; sum = 0 }

-- a failure at the state with number n
abbrev pub failure_at : ℕ → Place → Failure
failure_at n x = record { criterion = x.criterion; state = n; row = x.row; sum = x.sum }

-- where a value is missing: "It reports row 0 and sum value 0."
abbrev pub missing : Place
missing = place 10 0 0

-- x is a failure of the design: of the start, of criterion 10 in any state, or "for each state in which the invariant holds"
pub data Fails (d : Design) : Failure → Type 0 where
  start : (Criterion1 d → ⊥) → Fails d (start_failure d)
  tenth : {s : State} → InSize d.impl s → (Criterion10 d s → ⊥) → Fails d (failure_at (state_number d s) missing)
  at : {s : State} {x : Place} → InvariantState d s → FailsAt d s x → Fails d (failure_at (state_number d s) x)

-- "a failed start, or else the lowest failing state, there the lowest criterion, then row, then sum value": it fails, and nothing
-- that comes before it fails
abbrev pub LowestFailure : Design → Failure → Type 0
LowestFailure d = Lowest turn (Fails d)
