-- What a measure for a text comes to, and what C is told of it: `before` and `after` are what the slice holds before the call and after it.
use Rattle.std.specs.Prelude.{ℕ, ◌≡◌, ◌≢◌, List}
use Rattle.reader.specs.Text.{fields_by_line}
use Rattle.design.specs.Lines.{counts_of}
use Rattle.design.specs.Loaded.{fields_held, starts_held}
use Rattle.loader.specs.Load.{fault_of}
use Rattle.answers.specs.declared.Measured.{Measured}
use Rattle.answers.specs.declared.Measured.TheVariants.{Filled, Loop, TurnedDown}
use Rattle.measure.specs.Answer.{MeasureIn}

-- 1 to 7 come first: the text's lowest fault
pub data MeasureText (text before after : List ℕ) : Measured → Type 0 where
  faulty : fault_of text ≢ 0 → after ≡ before → MeasureText text before after (TurnedDown (fault_of text))
  design_text_lem : {r : Measured} → fault_of text ≡ 0
      → MeasureIn (fields_held (fields_by_line text)) (starts_held (fields_by_line text)) (counts_of (fields_by_line text)) before after r
      → MeasureText text before after r

-- what is returned, and the number that is told
abbrev pub result_of : Measured → ℕ
result_of Filled = 0
result_of (Loop s) = 1
result_of (TurnedDown k) = 2

abbrev pub number_told : Measured → ℕ
number_told Filled = 0
number_told (Loop s) = s
number_told (TurnedDown k) = k

pub record Tells (text before after : List ℕ) (result number : ℕ) : Type 0 where
  pub answer : Measured
  pub is : MeasureText text before after answer
  pub returned : result ≡ result_of answer
  pub told : number ≡ number_told answer
