-- The numbers that a call returns where they depend on its text or on the desk's arrays (01, "The desk", "Turned down by the input" 8,
-- "Turned down by the state"). Those of each answer, and those by the phase alone, are in answers/specs/Answers.
use Rattle.std.specs.Prelude.{ℕ, ◌-◌, min, Bool, cond, not, ◌&&◌, List, eqb}
use Rattle.layout.specs.Sizes.{state_count_in}
use Rattle.loader.specs.Load.{fault_of}
use Rattle.start.specs.Start.{start_in}
use Rattle.walk.specs.Walk.{walked_under}
use Rattle.answers.specs.declared.Phase.{Phase}
use Rattle.answers.specs.declared.Phase.TheVariants as phase
use Rattle.desk.specs.declared.Desk.{Desk}

-- ---- the number that a load returns; 0 is done

-- 12. "Load on a desk that isn't empty."; on an empty one the text's lowest fault
abbrev pub load_number : Phase → List ℕ → ℕ
load_number phase.Empty text = fault_of text
load_number phase.Open text = 12
load_number (phase.Accepted how) text = 12
load_number (phase.Failed f) text = 12

-- ---- how many states an advance examines

-- the start is tried in the first advance, and fails
abbrev pub start_fails : Desk → Bool
start_fails d = eqb d.next 0 && not (start_in d.lines.fields d.lines.starts d.counts)

-- "the next n states, or those that remain", up to the failing one; 0 where no state is examined
abbrev pub count_open : Desk → ℕ → ℕ
count_open d n =
    let left = state_count_in d.lines.fields d.lines.starts d.counts - d.next in
    cond (start_fails d) 0 (walked_under d.lines.fields d.lines.starts d.counts d.plan (min n left) d.next).count

-- "how many states it examined, the failing one included; 0 if criterion 1 failed"; turned down: 0
abbrev pub count_for : Phase → Desk → ℕ → ℕ
count_for phase.Empty d n = 0
count_for phase.Open d n = cond (eqb n 0) 0 (count_open d n)
count_for (phase.Accepted how) d n = 0
count_for (phase.Failed f) d n = 0

unfoldable pub advance_count : Desk → ℕ → ℕ
advance_count d n = count_for d.phase d n
