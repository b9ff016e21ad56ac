-- A desk's counts, phase and answers as the numbers that C holds and is told.
use Rattle.std.specs.Prelude.{ℕ, cond, List, [], ◌∷◌, eqb, get_or}
use Rattle.verdicts.specs.declared.Acceptance.TheVariants.{AsIs, AfterInternal}
use Rattle.verdicts.specs.declared.Failure.{Failure}
use Rattle.verdicts.specs.declared.Report.{Report}
use Rattle.verdicts.specs.Report.{accepted_number}
use Rattle.design.specs.declared.Counts.{Counts}
use Rattle.answers.specs.declared.Phase.{Phase}
use Rattle.answers.specs.declared.Phase.TheVariants as phase
use Rattle.answers.specs.declared.Advance.{Advance}
use Rattle.answers.specs.declared.Advance.TheVariants as advance

-- ---- the counts of lines of kinds 1 to 4 and 8

abbrev pub counts_told : Counts → List ℕ
counts_told c = c.kind1 ∷ c.kind2 ∷ c.kind3 ∷ c.kind4 ∷ c.kind8 ∷ []

abbrev pub counts_in : List ℕ → Counts
counts_in l = record { kind1 = get_or l 0 0; kind2 = get_or l 1 0; kind3 = get_or l 2 0; kind4 = get_or l 3 0; kind8 = get_or l 4 0 }

-- ---- phases as numbers: 0 empty, 1 open, 2 accepted as it is, 3 accepted after a first internal step, 4 failed

abbrev pub phase_told : Phase → List ℕ
phase_told phase.Empty = 0 ∷ 0 ∷ 0 ∷ 0 ∷ 0 ∷ []
phase_told phase.Open = 1 ∷ 0 ∷ 0 ∷ 0 ∷ 0 ∷ []
phase_told (phase.Accepted AsIs) = 2 ∷ 0 ∷ 0 ∷ 0 ∷ 0 ∷ []
phase_told (phase.Accepted AfterInternal) = 3 ∷ 0 ∷ 0 ∷ 0 ∷ 0 ∷ []
phase_told (phase.Failed f) = 4 ∷ f.criterion ∷ f.state ∷ f.row ∷ f.sum ∷ []

-- any other number stands for an empty desk
unfoldable pub phase_by : ℕ → Failure → Phase
phase_by k f =
    cond (eqb k 1) phase.Open
    (cond (eqb k 2) (phase.Accepted AsIs)
    (cond (eqb k 3) (phase.Accepted AfterInternal)
    (cond (eqb k 4) (phase.Failed f)
    phase.Empty)))

abbrev pub phase_in : List ℕ → Phase
phase_in l = phase_by (get_or l 0 0) (record { criterion = get_or l 1 0; state = get_or l 2 0; row = get_or l 3 0; sum = get_or l 4 0 })

-- ---- what an advance returns, and the number that it tells: 4 while the desk is open, the report's verdict when it is decided, 2 turned down

abbrev pub advance_result : Advance → ℕ
advance_result (advance.Open k) = 4
advance_result (advance.Accepted how k) = accepted_number how
advance_result (advance.Failed k) = 1
advance_result (advance.TurnedDown k) = 2

abbrev pub advance_told : Advance → ℕ
advance_told (advance.Open k) = k
advance_told (advance.Accepted how k) = k
advance_told (advance.Failed k) = k
advance_told (advance.TurnedDown k) = k

-- the report's five numbers
abbrev pub numbers_told : Report → List ℕ
numbers_told r = r.verdict ∷ r.number ∷ r.state ∷ r.row ∷ r.sum ∷ []
