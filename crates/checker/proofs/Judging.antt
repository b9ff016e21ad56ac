-- The one-call check gives the verdict on the text's design.
use Prim.Native.Nat.{ℕ, ◌≤◌, ◌<◌}
use mathlib.Core.Path.{◌≡◌, refl, ◌∙◌}
use mathlib.Core.Bool.{Bool, true, false, cond}
use mathlib.Core.List.{List}
use native.Mathlib.Omega.{arith}
use borrow.Author.Tests.{ne_eqb, lt-ltb, le-ltb}
use lib.ListN.{length}
use Rattle.foundation.specs.First.{pass, fail}
use Rattle.foundation.specs.First as first
use Rattle.reader.specs.Text.{fields_by_line}
use Rattle.verdicts.specs.declared.Report.{Report}
use Rattle.verdicts.specs.declared.Outcome.{Outcome}
use Rattle.verdicts.specs.declared.Outcome.TheVariants.{Fail}
use Rattle.verdicts.specs.declared.Acceptance.{Acceptance}
use Rattle.writer.specs.Put.{put}
use Rattle.writer.specs.Report as bytes
use Rattle.writer.proofs.Bytes.{report_first}
use Rattle.criteria.specs.Design.{Design, states}
use Rattle.criteria.specs.Failure.{Failure, start_failure}
use Rattle.decision.specs.Tests.{holds1}
use Rattle.decision.specs.Verdict.{over_states, checked, acceptance_of, by_outcome}
use Rattle.design.specs.Lines.{counts_of, design_text}
use Rattle.design.specs.Loaded.{fields_held, starts_held}
use Rattle.loader.specs.Load.{fault_of, held_by, loaded_of}
use Rattle.loader.specs.declared.Loaded.{Loaded}
use Rattle.loader.proofs.Passed.{of_ok, of_err}
use Rattle.std.specs.Prelude.{Result, Ok, Err}
use Rattle.verdicts.specs.declared.Fault.{Fault}
use Rattle.verdicts.specs.Refusals.{fault_number}
use Rattle.verdicts.proofs.Refusals.{number_is_some}
use Rattle.start.specs.Start.{acceptance_in}
use Rattle.walk.specs.Told.{said}
use Rattle.walk.specs.Walk.{checked_in}
use Rattle.phases.specs.Phases.{phase_after}
use Rattle.answers.specs.declared.Phase.{Phase}
use Rattle.answers.specs.declared.Verdict.{Verdict}
use Rattle.answers.specs.Answers.{verdict_numbers, told_by}
use Rattle.checker.specs.OneCall.{refused_report, design_report, judged_of, answer_of, buffer_written}
use Rattle.checker.proofs.Opened.{start_held, accepted_held, total_held, initial_held, walk_held}

-- ---- the check

-- the arrays that hold a text's lines are checked as its design is
checked_held : (text : List ℕ) → fault_of text ≡ 0 → checked_in (fields_held (fields_by_line text)) (starts_held (fields_by_line text)) (counts_of (fields_by_line text)) ≡ said (checked (design_text text))
unfolding checked_in checked
checked_held text ok =
    rw (start_held text ok, total_held text ok, walk_held text ok (states d) 0 (omega arith), initial_held text ok) (go (holds1 d))
  where
    d : Design
    d = design_text text

    go : (b : Bool) → cond b (said (over_states d)) (Fail (start_failure d)) ≡ said (cond b (over_states d) (fail (start_failure d)))
    go true = refl
    go false = refl

module _ (text : List ℕ) (q : Result Loaded Fault) (eq : q ≡ loaded_of text) where
  pub judge_refused : (f : Fault) → q ≡ Err f → (k : ℕ) → k ≡ fault_number f → (r : Report) → r ≡ refused_report k → r ≡ judged_of text
  unfolding judged_of
  judge_refused f e k ek r er = let is = of_err text q eq f e in er ∙ rw (is, ek, ne_eqb (fault_number f) 0 (number_is_some f))

  pub judge_loaded : (l : Loaded) → q ≡ Ok l → (o : Outcome) → o ≡ checked_in l.lines.fields l.lines.starts l.counts
      → (p : Phase) → p ≡ phase_after o true (acceptance_in l.lines.fields l.lines.starts l.counts) → (v : Verdict) → v ≡ told_by p
      → (r : Report) → r ≡ verdict_numbers v → r ≡ judged_of text
  unfolding judged_of
  judge_loaded l e o eo p ep v ev r er =
      let ok : fault_of text ≡ 0 = (of_ok text q eq l e).0 in
      let held : l ≡ held_by (fields_by_line text) = (of_ok text q eq l e).1 in
      er ∙ rw (ev, ep, eo, held, ok, checked_held text ok, accepted_held text ok) (same_report (acceptance_of (design_text text)) (checked (design_text text)))
    where
      same_report : (how : Acceptance) (w : first.Outcome Failure) → verdict_numbers (told_by (phase_after (said w) true how)) ≡ design_report (by_outcome how w)
      same_report how pass = refl
      same_report how (fail x) = refl

-- ---- the buffer

module _ (text report : List ℕ) where
  pub short : length report < 31 → 9 ≡ answer_of text report
  unfolding answer_of
  short h = rw (lt-ltb (length report) 31 h)

  pub short_kept : length report < 31 → report ≡ buffer_written text report
  unfolding buffer_written
  short_kept h = rw (lt-ltb (length report) 31 h)

  module _ (h : 31 ≤ length report) (j : Report) (ej : j ≡ judged_of text) where
    pub answered : j.verdict ≡ answer_of text report
    unfolding answer_of
    answered = rw (le-ltb (length report) 31 h, ← ej)

    pub written : (after : List ℕ) → after ≡ put report 0 (bytes.report_bytes j) → after ≡ buffer_written text report
    unfolding buffer_written
    written after e = rw (le-ltb (length report) 31 h, ← ej) (e ∙ report_first report j h)
