-- `Desk::measure` goes by the number of the phase; there is an answer for every desk and every slice; and what it answers and writes is
-- determined, the state that it names apart.
use Prim.Native.Nat.{ℕ}
use mathlib.Core.Path.{◌≡◌, refl, sym, ◌∙◌, ap, subst}
use mathlib.Core.Logic.{◌≢◌}
use mathlib.Core.List.{List}
use native.Mathlib.Omega.{arith}
use lib.ListN.{length}
use Rattle.answers.specs.declared.Phase.{Phase}
use Rattle.answers.specs.declared.Phase.TheVariants as phase
use Rattle.answers.specs.declared.Measured.{Measured}
use Rattle.answers.specs.declared.Measured.TheVariants as measured
use Rattle.answers.specs.Answers.{measured_number, empty_number}
use Rattle.measure.specs.Answer.{leaves, filled, loop, MeasureIn, short, has_room, SameAnswer, both_refused}
use Rattle.measure.proofs.Existence.{measure_there}
use Rattle.measure.proofs.Determined.{one_measure, refused_unwritten}
use Rattle.desk.specs.declared.Desk.{Desk}
use Rattle.desk.specs.Measure.{MeasureNumber, on_empty, without_room, criterion_fails, done, MeasureOf, refused_empty, on_loaded}

-- ---- its number

pub number_of : {d : Desk} {before after : List ℕ} {r : Measured} → MeasureOf d before after r → MeasureNumber d (length before) (measured_number r)
number_of (refused_empty e _) = on_empty e
number_of (on_loaded some (short none _)) = without_room some none
number_of (on_loaded some (has_room room (leaves out _))) = criterion_fails some room out
number_of (on_loaded some (has_room room (filled third _ _))) = done some room third
number_of (on_loaded some (has_room room (loop _ third _ _ _))) = done some room third

-- ---- the call

module _ (d : Desk) (p : Phase) (k : ℕ) (ep : p ≡ d.phase) (ek : k ≡ empty_number p) where
  pub measure_refused : (slice : List ℕ) → (k ≡ 0 → ⊥) → MeasureOf d slice slice (measured.TurnedDown k)
  measure_refused slice some = go p ep ek
    where
      go : (q : Phase) → q ≡ d.phase → k ≡ empty_number q → MeasureOf d slice slice (measured.TurnedDown k)
      go phase.Empty e n = subst (λ i. MeasureOf d slice slice (measured.TurnedDown i)) (sym n) (refused_empty (sym e) refl)
      go phase.Open e n = absurd (some n)
      go (phase.Accepted how) e n = absurd (some n)
      go (phase.Failed f) e n = absurd (some n)

  pub measure_on : (before after : List ℕ) (r : Measured) → k ≡ 0 → MeasureIn d.lines.fields d.lines.starts d.counts before after r → MeasureOf d before after r
  measure_on before after r none m = on_loaded (λ e. let z : empty_number p ≡ 11 = ap empty_number (ep ∙ e) in omega arith) m

  pub refused_number : (slice : List ℕ) → (k ≡ 0 → ⊥) → MeasureNumber d (length slice) (measured_number (measured.TurnedDown k))
  refused_number slice some = number_of (measure_refused slice some)

  pub measured_number_lem : (before after : List ℕ) (r : Measured) → k ≡ 0 → MeasureIn d.lines.fields d.lines.starts d.counts before after r
      → MeasureNumber d (length before) (measured_number r)
  measured_number_lem before after r none m = number_of (measure_on before after r none m)

-- ---- there is an answer

pub record MeasureFor (d : Desk) (before : List ℕ) : Type 0 where
  pub after : List ℕ
  pub answer : Measured
  pub is : MeasureOf d before after answer

not_empty : (d : Desk) (p : Phase) → d.phase ≡ p → empty_number p ≡ 0 → d.phase ≢ phase.Empty
not_empty d p e none empty = let z : empty_number p ≡ 11 = ap empty_number (sym e ∙ empty) in omega arith

pub answer_there : (d : Desk) (before : List ℕ) → MeasureFor d before
answer_there d before = go d.phase refl
  where
    made : d.phase ≢ phase.Empty → MeasureFor d before
    made some =
        let m = measure_there d.lines.fields d.lines.starts d.counts before in
        record { after = m.after; answer = m.answer; is = on_loaded some m.is }

    go : (p : Phase) → d.phase ≡ p → MeasureFor d before
    go phase.Empty e = record { after = before; answer = measured.TurnedDown 11; is = refused_empty e refl }
    go phase.Open e = made (not_empty d phase.Open e refl)
    go (phase.Accepted how) e = made (not_empty d (phase.Accepted how) e refl)
    go (phase.Failed f) e = made (not_empty d (phase.Failed f) e refl)

-- ---- and one only

pub one_answer : {d : Desk} {before a b : List ℕ} {r q : Measured} → MeasureOf d before a r → MeasureOf d before b q → (a ≡ b) × SameAnswer r q
one_answer (refused_empty x e) (refused_empty y g) = (e ∙ sym g, both_refused 11)
one_answer (refused_empty x e) (on_loaded y m) = absurd (y x)
one_answer (on_loaded x m) (refused_empty y e) = absurd (x y)
one_answer (on_loaded x m) (on_loaded y n) = one_measure m n

-- ---- turned down, it writes nothing

pub refused_kept : {d : Desk} {before after : List ℕ} {r : Measured} {k : ℕ} → r ≡ measured.TurnedDown k → MeasureOf d before after r → after ≡ before
refused_kept e (refused_empty _ same) = same
refused_kept e (on_loaded _ m) = refused_unwritten e m
