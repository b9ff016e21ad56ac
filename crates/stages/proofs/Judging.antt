-- A load of a text without fault begins the stages, and a desk that is decided tells the verdict on the text's design.
use Prim.Native.Nat.{ℕ}
use mathlib.Core.Path.{◌≡◌, refl, ap}
use mathlib.Core.Logic.{◌≢◌}
use mathlib.Core.List.{List}
use borrow.Author.Tests.{ne_eqb}
use Rattle.reader.specs.Text.{fields_by_line}
use Rattle.criteria.specs.Verdict.{accepted, failed}
use Rattle.criteria.specs.Verdict as criteria
use Rattle.decision.specs.Verdict.{verdict_of}
use Rattle.design.specs.Lines.{design_text}
use Rattle.verdicts.proofs.Refusals.{its_number}
use Rattle.loader.specs.Load.{fault_of, held_by, loaded_of}
use Rattle.loader.proofs.Lowest.{fault_at_most}
use Rattle.answers.specs.declared.Phase.{Phase}
use Rattle.answers.specs.declared.Phase.TheVariants as phase
use Rattle.answers.specs.declared.Done.TheVariants as done
use Rattle.answers.specs.Answers.{verdict_numbers}
use Rattle.desk.specs.declared.Desk.{Desk}
use Rattle.desk.specs.Desk.{opened, not_loaded, load_empty, tell_by, tell_of}
use Rattle.checker.specs.OneCall.{design_report}
use Rattle.stages.specs.Said.{said_verdict}
use Rattle.stages.proofs.Stages.{Stage, fresh, going, accepts, fails}

-- ---- a load on an empty desk

-- a text without fault is held, and nothing is tried yet
pub opened_stage : (text : List ℕ) → fault_of text ≡ 0 → Stage text (opened (held_by (fields_by_line text)))
opened_stage text ok = fresh (record { free = ok; held = record { fields_are = refl; starts_are = refl; counts_are = refl }; plan_is = refl }) refl refl

pub loaded_free : (d : Desk) (text : List ℕ) → fault_of text ≡ 0 → load_empty d (loaded_of text) ≡ record { answer = done.Done; desk = opened (held_by (fields_by_line text)) }
unfolding loaded_of
loaded_free d text ok = rw ok

pub loaded_fault : (d : Desk) (text : List ℕ) → fault_of text ≢ 0 → load_empty d (loaded_of text) ≡ not_loaded (fault_of text) d
unfolding loaded_of
loaded_fault d text z = rw (ne_eqb (fault_of text) 0 z) (ap (λ k. not_loaded k d) (its_number (fault_of text) z (fault_at_most text z)))

-- ---- the verdict of a decided desk

pub tell_at : (desk : Desk) {p : Phase} → desk.phase ≡ p → (tell_of desk).answer ≡ (tell_by p desk).answer
unfolding tell_of
tell_at desk e = ap (λ p. (tell_by p desk).answer) e

pub decided_answer : (text : List ℕ) (desk : Desk) → Stage text desk → desk.phase ≢ phase.Open → (tell_of desk).answer ≡ said_verdict (verdict_of (design_text text))
decided_answer text desk (fresh h e z) o = absurd (o e)
decided_answer text desk (going h e l u p) o = absurd (o e)
decided_answer text desk (accepts how h e v) o = rw (tell_at desk e, v)
decided_answer text desk (fails x h e v) o = rw (tell_at desk e, v)

pub decided_report : (text : List ℕ) (desk : Desk) → Stage text desk → desk.phase ≢ phase.Open
    → verdict_numbers (tell_of desk).answer ≡ design_report (verdict_of (design_text text))
decided_report text desk s o = rw (decided_answer text desk s o) (same_report (verdict_of (design_text text)))
  where
    same_report : (v : criteria.Verdict) → verdict_numbers (said_verdict v) ≡ design_report v
    same_report (accepted how) = refl
    same_report (failed x) = refl
