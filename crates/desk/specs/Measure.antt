-- What a measure answers and writes on a desk (02, order 4): "Answers: after 11, 17 .., then 18". `before` and `after` are what the slice holds
-- before the call and after it; the rest is in measure/specs/Answer. That there is an answer, and but for the state that it names one only, is in
-- proofs/Measure.
use Rattle.std.specs.Prelude.{◌≡◌, ◌≢◌, List, ℕ}
use Rattle.answers.specs.declared.Phase.TheVariants as phase
use Rattle.answers.specs.declared.Measured.{Measured}
use Rattle.answers.specs.declared.Measured.TheVariants.{TurnedDown}
use Rattle.criteria.specs.Measure.{Measurable, Unmeasurable}
use Rattle.design.specs.Loaded.{design_in}
use Rattle.measure.specs.Answer.{HasRoom, MeasureIn}
use Rattle.desk.specs.declared.Desk.{Desk}

-- the number that it returns in n places: 11 on an empty desk, else 17 without room, else 18 where criterion 3 fails in some state, or criterion 10,
-- the measure apart; 0 is done
pub data MeasureNumber (d : Desk) (n : ℕ) : ℕ → Type 0 where
  on_empty : d.phase ≡ phase.Empty → MeasureNumber d n 11
  without_room : d.phase ≢ phase.Empty → (HasRoom d.lines.fields d.lines.starts d.counts n → ⊥) → MeasureNumber d n 17
  criterion_fails : d.phase ≢ phase.Empty → HasRoom d.lines.fields d.lines.starts d.counts n → Unmeasurable (design_in d.lines.fields d.lines.starts d.counts) → MeasureNumber d n 18
  done : d.phase ≢ phase.Empty → HasRoom d.lines.fields d.lines.starts d.counts n → Measurable (design_in d.lines.fields d.lines.starts d.counts) → MeasureNumber d n 0

-- the answer, and what is written
pub data MeasureOf (d : Desk) (before after : List ℕ) : Measured → Type 0 where
  refused_empty : d.phase ≡ phase.Empty → after ≡ before → MeasureOf d before after (TurnedDown 11)
  on_loaded : {r : Measured} → d.phase ≢ phase.Empty → MeasureIn d.lines.fields d.lines.starts d.counts before after r → MeasureOf d before after r
