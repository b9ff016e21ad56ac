-- What the one-call check answers and writes, by the length of the buffer and the text.
use Prim.Native.Nat.{ℕ, ◌<◌, ◌≤◌}
use mathlib.Core.Path.{◌≡◌, refl, sym, ap, ◌∙◌}
use mathlib.Core.Logic.{◌≢◌, ◌⊎◌, inl, inr}
use mathlib.Core.Bool.{Bool, true, false}
use mathlib.Core.List.{List, ◌++◌}
use native.Mathlib.Omega.{arith}
use borrow.Author.Tests.{eq-eqb, ne_eqb, eqb-true, eqb-false, lt-ltb, le-ltb, ltb-true, ltb-false}
use lib.Dec.{eqb, ltb}
use lib.ListN.{length, drop}
use Rattle.writer.specs.Report as bytes
use Rattle.verdicts.specs.declared.Acceptance.TheVariants.{AsIs, AfterInternal}
use Rattle.verdicts.specs.Report.{accepted_number}
use Rattle.criteria.specs.Verdict.{Acceptance, Verdict, accepted, failed}
use Rattle.decision.specs.Verdict.{verdict_of}
use Rattle.design.specs.Lines.{design_text}
use Rattle.loader.specs.Load.{fault_of}
use Rattle.checker.specs.OneCall.{refused_report, design_report, judged_of, answer_of, buffer_written}
use Rattle.claims.specs.Contracted.{Checks}
use Rattle.claims.proofs.Lists.{answered}
use Rattle.claims.proofs.Kept.{Accepts}

module _ (text report : List ℕ) where
  pub short_answer : length report < 31 → answer_of text report ≡ 9
  unfolding answer_of
  short_answer l = rw (lt-ltb (length report) 31 l)

  pub short_buffer : length report < 31 → buffer_written text report ≡ report
  unfolding buffer_written
  short_buffer l = rw (lt-ltb (length report) 31 l)

  pub long_answer : 31 ≤ length report → answer_of text report ≡ (judged_of text).verdict
  unfolding answer_of
  long_answer l = rw (le-ltb (length report) 31 l)

  pub long_buffer : 31 ≤ length report → buffer_written text report ≡ bytes.report_bytes (judged_of text) ++ drop 31 report
  unfolding buffer_written
  long_buffer l = rw (le-ltb (length report) 31 l)

module _ (text : List ℕ) where
  pub judged_free : fault_of text ≡ 0 → judged_of text ≡ design_report (verdict_of (design_text text))
  unfolding judged_of
  judged_free e = rw (eq-eqb (fault_of text) 0 e)

  pub judged_fault : fault_of text ≢ 0 → judged_of text ≡ refused_report (fault_of text)
  unfolding judged_of
  judged_fault e = rw (ne_eqb (fault_of text) 0 e)

  -- 0 and 3 are answered only for a design that is accepted so
  no_refusal : (how : Acceptance) → 2 ≡ accepted_number how → ⊥
  no_refusal AsIs q = omega arith
  no_refusal AfterInternal q = omega arith

  no_short : (how : Acceptance) → 9 ≡ accepted_number how → ⊥
  no_short AsIs q = omega arith
  no_short AfterInternal q = omega arith

  judged_by : (how : Acceptance) (free : Bool) → eqb (fault_of text) 0 ≡ free → (judged_of text).verdict ≡ accepted_number how → Accepts how text
  judged_by how true e z = let ok = eqb-true (fault_of text) 0 e in record { free = ok; verdict_is = by_verdict how (verdict_of (design_text text)) (ap (λ r. r.verdict) (sym (judged_free ok)) ∙ z) }
    where
      by_verdict : (how : Acceptance) (v : Verdict) → (design_report v).verdict ≡ accepted_number how → v ≡ accepted how
      by_verdict AsIs (accepted AsIs) _ = refl
      by_verdict AsIs (accepted AfterInternal) q = absurd (omega arith)
      by_verdict AsIs (failed x) q = absurd (omega arith)
      by_verdict AfterInternal (accepted AsIs) q = absurd (omega arith)
      by_verdict AfterInternal (accepted AfterInternal) _ = refl
      by_verdict AfterInternal (failed x) q = absurd (omega arith)
  judged_by how false e z = absurd (no_refusal how (ap (λ r. r.verdict) (sym (judged_fault (eqb-false (fault_of text) 0 e))) ∙ z))

  answer_by : (how : Acceptance) (report : List ℕ) (short : Bool) → ltb (length report) 31 ≡ short → answer_of text report ≡ accepted_number how → Accepts how text
  answer_by how report true e z = absurd (no_short how (sym (short_answer text report (ltb-true (length report) 31 e)) ∙ z))
  answer_by how report false e z = judged_by how _ refl (sym (long_answer text report (ltb-false (length report) 31 e)) ∙ z)

pub check_accepts : {text report after : List ℕ} {r : ℕ} (how : Acceptance) → Checks text report r after → r ≡ accepted_number how → Accepts how text
check_accepts {text} {report} how c e = answer_by text how report _ refl (sym (answered c) ∙ e)

-- a design text is accepted or failed
pub check_ends : {text report after : List ℕ} {r : ℕ} → fault_of text ≡ 0 → Checks text report r after → 31 ≤ length report
    → ((how : Acceptance) × (r ≡ accepted_number how)) ⊎ (r ≡ 1)
check_ends {text} {report} free c l =
    by_verdict (verdict_of (design_text text)) (answered c ∙ long_answer text report l ∙ ap (λ j. j.verdict) (judged_free text free))
  where
    by_verdict : {r : ℕ} (v : Verdict) → r ≡ (design_report v).verdict → ((how : Acceptance) × (r ≡ accepted_number how)) ⊎ (r ≡ 1)
    by_verdict (accepted how) e = inl (how, e)
    by_verdict (failed x) e = inr e
