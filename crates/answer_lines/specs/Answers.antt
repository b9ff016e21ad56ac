-- The lines of answers: "The answers are `load 0`, `open N`, `accepted N` or `accepted3 N`, `failed N`, `verdict` and the report's five
-- numbers, `measure` or `loop S` and the numbers of all places, `drop 0`, and `turned down N`." A number is decimal, without zeros in
-- front; each line ends with byte 10. A measure's line is put in pieces; that they are the line is proved in proofs/Pieces.
use Rattle.std.specs.Prelude.{ℕ, ◌<◌, ◌≡◌, Bool, true, false, List, [], ◌∷◌, ◌++◌, length, drop}
use Rattle.verdicts.specs.declared.Report.{Report}
use Rattle.verdicts.specs.declared.Acceptance.{Acceptance}
use Rattle.verdicts.specs.declared.Acceptance.TheVariants.{AsIs, AfterInternal}
use Rattle.answers.specs.declared.Done.{Done}
use Rattle.answers.specs.declared.Done.TheVariants as done
use Rattle.answers.specs.declared.Advance.{Advance}
use Rattle.answers.specs.declared.Advance.TheVariants as advance
use Rattle.answers.specs.declared.Verdict.{Verdict}
use Rattle.answers.specs.declared.Verdict.TheVariants as verdict
use Rattle.answers.specs.declared.Measured.{Measured}
use Rattle.answers.specs.declared.Measured.TheVariants as measured
use Rattle.answers.specs.Answers.{verdict_numbers}
use Rattle.call_lines.specs.Number.{decimal_of}
use Rattle.answer_lines.specs.declared.Stop.{Stop}
use Rattle.answer_lines.specs.declared.Stop.TheVariants as stop

-- ---- the words

-- "load", "drop"
abbrev pub load_word : List ℕ
load_word = 108 ∷ 111 ∷ 97 ∷ 100 ∷ []

abbrev pub drop_word : List ℕ
drop_word = 100 ∷ 114 ∷ 111 ∷ 112 ∷ []

-- "open ", "accepted ", "accepted3 ", "failed ", "turned down "
abbrev pub open_word : List ℕ
open_word = 111 ∷ 112 ∷ 101 ∷ 110 ∷ 32 ∷ []

abbrev pub accepted_word : Acceptance → List ℕ
accepted_word AsIs = 97 ∷ 99 ∷ 99 ∷ 101 ∷ 112 ∷ 116 ∷ 101 ∷ 100 ∷ 32 ∷ []
accepted_word AfterInternal = 97 ∷ 99 ∷ 99 ∷ 101 ∷ 112 ∷ 116 ∷ 101 ∷ 100 ∷ 51 ∷ 32 ∷ []

abbrev pub failed_word : List ℕ
failed_word = 102 ∷ 97 ∷ 105 ∷ 108 ∷ 101 ∷ 100 ∷ 32 ∷ []

abbrev pub turned_down_words : List ℕ
turned_down_words = 116 ∷ 117 ∷ 114 ∷ 110 ∷ 101 ∷ 100 ∷ 32 ∷ 100 ∷ 111 ∷ 119 ∷ 110 ∷ 32 ∷ []

-- "verdict"
abbrev pub verdict_word : List ℕ
verdict_word = 118 ∷ 101 ∷ 114 ∷ 100 ∷ 105 ∷ 99 ∷ 116 ∷ []

-- "measure", "loop "
abbrev pub measure_word : List ℕ
measure_word = 109 ∷ 101 ∷ 97 ∷ 115 ∷ 117 ∷ 114 ∷ 101 ∷ []

abbrev pub loop_word : List ℕ
loop_word = 108 ∷ 111 ∷ 111 ∷ 112 ∷ 32 ∷ []

-- ---- the answers

abbrev pub numbered : List ℕ → ℕ → List ℕ
numbered words n = words ++ (decimal_of n ++ (10 ∷ []))

abbrev pub done_line : List ℕ → Done → List ℕ
done_line word done.Done = word ++ (32 ∷ 48 ∷ 10 ∷ [])
done_line word (done.TurnedDown k) = numbered turned_down_words k

abbrev pub advance_line : Advance → List ℕ
advance_line (advance.Open k) = numbered open_word k
advance_line (advance.Accepted how k) = numbered (accepted_word how) k
advance_line (advance.Failed k) = numbered failed_word k
advance_line (advance.TurnedDown k) = numbered turned_down_words k

-- a blank and a number
abbrev pub next : ℕ → List ℕ
next n = 32 ∷ decimal_of n

abbrev pub report_line : Report → List ℕ
report_line r = verdict_word ++ (next r.verdict ++ (next r.number ++ (next r.state ++ (next r.row ++ (next r.sum ++ (10 ∷ []))))))

abbrev pub verdict_line : Verdict → List ℕ
verdict_line (verdict.Accepted how) = report_line (verdict_numbers (verdict.Accepted how))
verdict_line (verdict.Failed f) = report_line (verdict_numbers (verdict.Failed f))
verdict_line (verdict.TurnedDown k) = numbered turned_down_words k

-- ---- a measure

-- the numbers of all places, a blank before each
unfoldable pub places_of : List ℕ → List ℕ
places_of [] = []
places_of (n ∷ slice) = next n ++ places_of slice

-- the line of an answer and of what the slice then holds
abbrev pub measure_line : Measured → List ℕ → List ℕ
measure_line measured.Filled slice = measure_word ++ (places_of slice ++ (10 ∷ []))
measure_line (measured.Loop s) slice = (loop_word ++ decimal_of s) ++ (places_of slice ++ (10 ∷ []))
measure_line (measured.TurnedDown k) slice = numbered turned_down_words k

-- its first piece, and whether the places follow
abbrev pub measure_head : Measured → List ℕ
measure_head measured.Filled = measure_word
measure_head (measured.Loop s) = loop_word ++ decimal_of s
measure_head (measured.TurnedDown k) = numbered turned_down_words k

abbrev pub places_follow : Measured → Bool
places_follow measured.Filled = true
places_follow (measured.Loop s) = true
places_follow (measured.TurnedDown k) = false

-- a piece has the numbers of the places from one on, up to another: with those of the others after it, it is all from that one on
pub record IsPiece (slice : List ℕ) (from to : ℕ) (piece : List ℕ) : Type 0 where
  pub numbers : piece ++ places_of (drop to slice) ≡ places_of (drop from slice)
  pub some : from < length slice → from < to

-- ---- the end of a list

-- "line "
abbrev pub line_word : List ℕ
line_word = 108 ∷ 105 ∷ 110 ∷ 101 ∷ 32 ∷ []

-- ": no call", ": the text is not there in full", ": no line end after the text", ": no room for so many places"
abbrev pub stop_words : Stop → List ℕ
stop_words stop.NoCall = 58 ∷ 32 ∷ 110 ∷ 111 ∷ 32 ∷ 99 ∷ 97 ∷ 108 ∷ 108 ∷ 10 ∷ []
stop_words stop.TextMissing =
    58 ∷ 32 ∷ 116 ∷ 104 ∷ 101 ∷ 32 ∷ 116 ∷ 101 ∷ 120 ∷ 116 ∷ 32 ∷ 105 ∷ 115 ∷ 32 ∷ 110 ∷ 111 ∷ 116 ∷ 32 ∷
    116 ∷ 104 ∷ 101 ∷ 114 ∷ 101 ∷ 32 ∷ 105 ∷ 110 ∷ 32 ∷ 102 ∷ 117 ∷ 108 ∷ 108 ∷ 10 ∷ []
stop_words stop.NoLineEnd =
    58 ∷ 32 ∷ 110 ∷ 111 ∷ 32 ∷ 108 ∷ 105 ∷ 110 ∷ 101 ∷ 32 ∷ 101 ∷ 110 ∷ 100 ∷ 32 ∷ 97 ∷ 102 ∷ 116 ∷ 101 ∷
    114 ∷ 32 ∷ 116 ∷ 104 ∷ 101 ∷ 32 ∷ 116 ∷ 101 ∷ 120 ∷ 116 ∷ 10 ∷ []
stop_words stop.NoRoom =
    58 ∷ 32 ∷ 110 ∷ 111 ∷ 32 ∷ 114 ∷ 111 ∷ 111 ∷ 109 ∷ 32 ∷ 102 ∷ 111 ∷ 114 ∷ 32 ∷ 115 ∷ 111 ∷ 32 ∷ 109 ∷
    97 ∷ 110 ∷ 121 ∷ 32 ∷ 112 ∷ 108 ∷ 97 ∷ 99 ∷ 101 ∷ 115 ∷ 10 ∷ []

-- "a line that has the number of the call's line"
abbrev pub stop_line : Stop → ℕ → List ℕ
stop_line why n = line_word ++ (decimal_of n ++ stop_words why)
