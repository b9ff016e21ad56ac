-- What each call comes to, by the phase of its desk and the text (specs/Outcomes).
use Prim.Native.Nat.{ℕ}
use mathlib.Core.Path.{◌≡◌, refl, ap, ◌∙◌}
use mathlib.Core.Logic.{◌≢◌}
use mathlib.Core.List.{List, ◌++◌}
use native.Mathlib.Omega.{arith}
use lib.ListN.{drop}
use Rattle.writer.specs.Report as bytes
use Rattle.design.specs.Faults.{DesignText}
use Rattle.loader.specs.Load.{fault_of}
use Rattle.loader.proofs.Lowest.{free_exactly, lowest_fault}
use Rattle.answers.specs.declared.Phase.{Phase}
use Rattle.answers.specs.declared.Phase.TheVariants as phase
use Rattle.answers.specs.declared.Done.TheVariants as done
use Rattle.answers.specs.declared.Measured.{Measured}
use Rattle.answers.specs.declared.Measured.TheVariants as measured
use Rattle.desk.specs.declared.Desk.{Desk}
use Rattle.desk.specs.declared.AfterLoad.{AfterLoad}
use Rattle.desk.specs.declared.AfterMeasure.{AfterMeasure}
use Rattle.answers.specs.Answers.{Decided}
use Rattle.answers.specs.Answers as answers
use Rattle.desk.specs.Desk.{empty_desk, not_loaded, not_advanced, load_of, advance_of, tell_by, tell_of, drop_by, drop_of}
use Rattle.desk.specs.Measure.{MeasureOf, refused_empty, on_loaded}
use Rattle.desk.proofs.Measure.{refused_kept}
use Rattle.measuring.specs.Measured as measuring
use Rattle.stages.proofs.Judging.{loaded_free, loaded_fault}
use Rattle.claims.specs.Contracted.{Loads, Makes}
use Rattle.claims.specs.Outcomes.{Opens, TurnsDown, Refusals}
use Rattle.claims.proofs.Kept.{load_at, advance_at, by_none}
use Rattle.claims.proofs.Lists.{loaded_as, made_by, made_for, answered, written}
use Rattle.claims.proofs.OneCall.{long_answer, long_buffer, judged_fault}

-- ---- calls turned down

not_empty : {p : Phase} → Decided p → p ≡ phase.Empty → ⊥
not_empty (answers.accepted how) e = let z : ◌≡◌ {A = ℕ} 0 1 = cc in omega arith
not_empty (answers.failed f) e = let z : ◌≡◌ {A = ℕ} 0 1 = cc in omega arith

not_open : {p : Phase} → Decided p → p ≡ phase.Open → ⊥
not_open (answers.accepted how) e = let z : ◌≡◌ {A = ℕ} 0 1 = cc in omega arith
not_open (answers.failed f) e = let z : ◌≡◌ {A = ℕ} 0 1 = cc in omega arith

module _ (d : Desk) where
  by_phase_load : (text : List ℕ) (p : Phase) → d.phase ≡ p → p ≢ phase.Empty → load_of d text ≡ not_loaded 12 d
  by_phase_load text phase.Empty e o = absurd (o refl)
  by_phase_load text phase.Open e o = load_at d text e
  by_phase_load text (phase.Accepted how) e o = load_at d text e
  by_phase_load text (phase.Failed f) e o = load_at d text e

  by_phase_advance : (n : ℕ) (p : Phase) → d.phase ≡ p → Decided p → advance_of d n ≡ not_advanced 14 d
  by_phase_advance n phase.Empty e o = absurd (not_empty o refl)
  by_phase_advance n phase.Open e o = absurd (not_open o refl)
  by_phase_advance n (phase.Accepted how) e o = advance_at d n e
  by_phase_advance n (phase.Failed f) e o = advance_at d n e

  tell_at : {p : Phase} → d.phase ≡ p → tell_of d ≡ tell_by p d
  unfolding tell_of
  tell_at e = ap (λ p. tell_by p d) e

  drop_at : {p : Phase} → d.phase ≡ p → drop_of d ≡ drop_by p d
  unfolding drop_of
  drop_at e = ap (λ p. drop_by p d) e

  measured_empty : {slice after : List ℕ} {r : AfterMeasure} → Makes d slice r after → d.phase ≡ phase.Empty
      → (r ≡ record { answer = measured.TurnedDown 11; desk = d }) × (after ≡ slice)
  measured_empty {slice} {after} {r} m e = go r.answer refl (made_by m).1
    where
      go : (a : Measured) → r.answer ≡ a → MeasureOf d slice after a → (r ≡ record { answer = measured.TurnedDown 11; desk = d }) × (after ≡ slice)
      go a q (on_loaded some _) = absurd (some e)
      go a q (refused_empty _ same) = (λ i. record { answer = q i; desk = (made_by m).0 i }, same)

  pub refusals : Refusals d
  refusals = record {
    advance_empty = λ n p e. p.0 ∙ advance_at d n e;
    verdict_empty = λ p e. p.0 ∙ tell_at e;
    measure_empty = λ m e. measured_empty m e;
    drop_empty = λ p e. p.0 ∙ drop_at e;
    load_held = λ p e. loaded_as p ∙ by_phase_load _ d.phase refl e;
    verdict_open = λ p e. p.0 ∙ tell_at e;
    advance_decided = λ n p e. p.0 ∙ by_phase_advance n d.phase refl e;
    advance_none = λ p e. p.0 ∙ advance_at d 0 e ∙ by_none d 0 refl;
  }

-- ---- measures

pub measured_by : {d : Desk} {slice after : List ℕ} {r : AfterMeasure} → Makes d slice r after
    → (r.desk ≡ d) × ((k : ℕ) → r.answer ≡ measured.TurnedDown k → after ≡ slice)
measured_by {d} {slice} {after} {r} m = ((made_by m).0, λ k e. refused_kept e (made_by m).1)

-- ---- loads and drops

pub opened_by : {d : Desk} {text : List ℕ} {r : AfterLoad} → DesignText text → Loads d text r → d.phase ≡ phase.Empty → Opens text r
opened_by {d} {text} t p e =
    let free = (free_exactly text).1 t in
    rw (loaded_as p ∙ load_at d text e ∙ loaded_free d text free)
    (record { number_is = refl; answer_is = refl; opens = refl; at_first = refl; holds = record { fields_are = refl; starts_are = refl; counts_are = refl } })

pub turned_by : (d : Desk) (text : List ℕ) → fault_of text ≢ 0 → TurnsDown d text
turned_by d text z =
    record {
      number = fault_of text;
      lowest = lowest_fault text z;
      by_load = λ p e. loaded_as p ∙ load_at d text e ∙ loaded_fault d text z;
      by_check = λ {report} c l. (
        answered c ∙ long_answer text report l ∙ ap (λ j. j.verdict) (judged_fault text z),
        written c ∙ long_buffer text report l ∙ ap (λ j. bytes.report_bytes j ++ drop 31 report) (judged_fault text z),
      );
      by_measuring = λ m. faulty_told (made_for m);
    }
  where
    faulty_told : {slice after : List ℕ} {r k : ℕ} → measuring.Tells text slice after r k → (r ≡ 2) × ((k ≡ fault_of text) × (after ≡ slice))
    faulty_told {slice} {after} t = go t.is t.returned t.told
      where
        go : {a : Measured} {r k : ℕ} → measuring.MeasureText text slice after a → r ≡ measuring.result_of a → k ≡ measuring.number_told a
            → (r ≡ 2) × ((k ≡ fault_of text) × (after ≡ slice))
        go (measuring.faulty _ same) e f = (e, (f, same))
        go (measuring.design_text_lem none _) e f = absurd (z none)

pub dropped_by : (d : Desk) (p : Phase) → d.phase ≡ p → p ≢ phase.Empty → drop_of d ≡ record { answer = done.Done; desk = empty_desk }
dropped_by d phase.Empty e o = absurd (o refl)
dropped_by d phase.Open e o = drop_at d e
dropped_by d (phase.Accepted how) e o = drop_at d e
dropped_by d (phase.Failed f) e o = drop_at d e
