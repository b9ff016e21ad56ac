-- What a load is of, and the line of its answer; what a measure says. What each call answers and the desk it leaves are in desk/specs/Desk and
-- desk/specs/Measure, the lines of answers in answer_lines/specs/Answers.
use Rattle.std.specs.Prelude.{ℕ, ◌≡◌, List, Bool, length, take, replicate}
use Rattle.answers.specs.declared.Measured.{Measured}
use Rattle.desk.specs.declared.Desk.{Desk}
use Rattle.desk.specs.Desk.{load_of}
use Rattle.desk.specs.Measure.{MeasureOf}
use Rattle.answer_lines.specs.Answers.{load_word, done_line, measure_head, places_follow}

-- a text of n bytes of which as many as there is room for were read
abbrev pub IsText : ℕ → List ℕ → List ℕ → Type 0
IsText n room text = (length text ≡ n) × (take (length room) text ≡ take n room)

-- the answer of a load
abbrev pub line_loaded : Desk → List ℕ → List ℕ
line_loaded desk text = done_line load_word (load_of desk text).answer

-- a measure made in n places that held 65535: what they hold after it, the head of the answer's line, and whether the places follow
pub record MeasureSaid (d : Desk) (n : ℕ) (after head : List ℕ) (places : Bool) : Type 0 where
  pub answer : Measured
  pub made : MeasureOf d (replicate n 65535) after answer
  pub said : head ≡ measure_head answer
  pub follow : places ≡ places_follow answer
