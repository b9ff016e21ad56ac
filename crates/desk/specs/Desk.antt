-- The desk (01, "The desk", "Turned down by the input" 8, "Turned down by the state"; 02, order 6): what each call answers and the desk it
-- leaves, for every desk and every argument. A desk here is any record of that type; which desks there are in a list of calls is in the
-- crate claims. What loading a text comes to is in loader/specs/Load, what a walk over states in walk/specs.
use Rattle.std.specs.Prelude.{ℕ, ◌+◌, ◌≡◌, cond, List, eqb, leb, replicate, Result, Ok, Err}
use Rattle.reader.specs.Text.{fields_by_line}
use Rattle.design.specs.Lines.{counts_of}
use Rattle.design.specs.Loaded.{fields_held, starts_held}
use Rattle.layout.specs.Lines.{no_lines}
use Rattle.layout.specs.Sizes.{state_count_in}
use Rattle.verdicts.specs.declared.Fault.{Fault}
use Rattle.verdicts.specs.Refusals.{fault_number}
use Rattle.loader.specs.declared.Loaded.{Loaded}
use Rattle.loader.specs.Load.{loaded_of}
use Rattle.start.specs.Start.{start_in, start_failure_in, acceptance_in}
use Rattle.walk.specs.Walk.{plan_of, walked_under}
use Rattle.phases.specs.Phases.{phase_after}
use Rattle.examining.specs.Examined.{ahead}
use Rattle.verdicts.specs.declared.Walked.{Walked}
use Rattle.answers.specs.declared.Phase.{Phase}
use Rattle.answers.specs.declared.Phase.TheVariants as phase
use Rattle.answers.specs.declared.Done.TheVariants as done
use Rattle.answers.specs.declared.Advance.TheVariants as advance
use Rattle.answers.specs.Answers.{told_by, advanced_to}
use Rattle.desk.specs.declared.Desk.{Desk}
use Rattle.desk.specs.declared.AfterLoad.{AfterLoad}
use Rattle.desk.specs.declared.AfterAdvance.{AfterAdvance}
use Rattle.desk.specs.declared.AfterVerdict.{AfterVerdict}
use Rattle.desk.specs.declared.AfterDrop.{AfterDrop}

-- "A new desk is empty."
abbrev pub empty_desk : Desk
empty_desk = record {
  lines = no_lines;
  counts = record { kind1 = 0; kind2 = 0; kind3 = 0; kind4 = 0; kind8 = 0 };
  plan = replicate 387 0;
  next = 0;
  phase = phase.Empty;
}

-- the same design, at another state and in another phase
abbrev pub placed : Desk → ℕ → Phase → Desk
placed d n p = record { lines = d.lines; counts = d.counts; plan = d.plan; next = n; phase = p }

-- "It keeps its own copy of the fields": the desk's arrays hold the lines of a text
pub record HoldsText (text : List ℕ) (desk : Desk) : Type 0 where
  pub fields_are : desk.lines.fields ≡ fields_held (fields_by_line text)
  pub starts_are : desk.lines.starts ≡ starts_held (fields_by_line text)
  pub counts_are : desk.counts ≡ counts_of (fields_by_line text)

-- ---- "Load takes a text and opens the desk"

-- "A desk call turned down returns its number .. and the desk unchanged"
abbrev pub not_loaded : ℕ → Desk → AfterLoad
not_loaded k d = record { answer = done.TurnedDown k; desk = d }

abbrev pub opened : Loaded → Desk
opened l = record { lines = l.lines; counts = l.counts; plan = plan_of l.lines.fields l.lines.starts l.counts; next = 0; phase = phase.Open }

abbrev pub load_empty : Desk → Result Loaded Fault → AfterLoad
load_empty d (Ok l) = record { answer = done.Done; desk = opened l }
load_empty d (Err f) = not_loaded (fault_number f) d

-- 12. "Load on a desk that isn't empty."
abbrev pub load_by : Phase → Desk → List ℕ → AfterLoad
load_by phase.Empty d text = load_empty d (loaded_of text)
load_by phase.Open d text = not_loaded 12 d
load_by (phase.Accepted how) d text = not_loaded 12 d
load_by (phase.Failed f) d text = not_loaded 12 d

unfoldable pub load_of : Desk → List ℕ → AfterLoad
load_of d text = load_by d.phase d text

-- ---- "advance examines the next n states, or those that remain"

abbrev pub not_advanced : ℕ → Desk → AfterAdvance
not_advanced k d = record { answer = advance.TurnedDown k; desk = d }

-- "how many states it examined, the failing one included; 0 if criterion 1 failed"
unfoldable pub fail_start : Desk → AfterAdvance
fail_start d =
    let failure = start_failure_in d.lines.fields d.lines.starts d.counts in
    record { answer = advance.Failed 0; desk = placed d 0 (phase.Failed failure) }

-- an advance over count states leaves the desk at this state, in this phase
abbrev pub left_at : Desk → ℕ → ℕ → Phase → AfterAdvance
left_at d count at p = record { answer = advanced_to p count; desk = placed d at p }

unfoldable pub walked_on : Desk → Walked → ℕ → AfterAdvance
walked_on d w total =
    let at = d.next + w.count in
    left_at d w.count at (phase_after w.outcome (leb total at) (acceptance_in d.lines.fields d.lines.starts d.counts))

unfoldable pub examine_next : Desk → ℕ → AfterAdvance
examine_next d n =
    let total = state_count_in d.lines.fields d.lines.starts d.counts in
    let k = ahead n d.next total in
    walked_on d (walked_under d.lines.fields d.lines.starts d.counts d.plan k d.next) total

-- "Criterion 1 comes before state 0, in the first advance"
unfoldable pub examine_open : Desk → ℕ → AfterAdvance
examine_open d n =
    cond (eqb d.next 0)
    (cond (start_in d.lines.fields d.lines.starts d.counts) (examine_next d n) (fail_start d))
    (examine_next d n)

-- 8. "Advance by 0 states."
unfoldable pub advance_open : Desk → ℕ → AfterAdvance
advance_open d n = cond (eqb n 0) (not_advanced 8 d) (examine_open d n)

-- 11. "Advance, verdict or drop on an empty desk." 14. "Advance when decided." "These come before the input's."
abbrev pub advance_by : Phase → Desk → ℕ → AfterAdvance
advance_by phase.Empty d n = not_advanced 11 d
advance_by phase.Open d n = advance_open d n
advance_by (phase.Accepted how) d n = not_advanced 14 d
advance_by (phase.Failed f) d n = not_advanced 14 d

unfoldable pub advance_of : Desk → ℕ → AfterAdvance
advance_of d n = advance_by d.phase d n

-- ---- "verdict returns the report's numbers"

abbrev pub tell_by : Phase → Desk → AfterVerdict
tell_by p d = record { answer = told_by p; desk = d }

unfoldable pub tell_of : Desk → AfterVerdict
tell_of d = tell_by d.phase d

-- ---- "drop empties the desk, open or decided"

abbrev pub drop_by : Phase → Desk → AfterDrop
drop_by phase.Empty d = record { answer = done.TurnedDown 11; desk = d }
drop_by phase.Open d = record { answer = done.Done; desk = empty_desk }
drop_by (phase.Accepted how) d = record { answer = done.Done; desk = empty_desk }
drop_by (phase.Failed f) d = record { answer = done.Done; desk = empty_desk }

unfoldable pub drop_of : Desk → AfterDrop
drop_of d = drop_by d.phase d
