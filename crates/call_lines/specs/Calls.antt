-- What the line of a desk call says, without its byte 10: "`load N`, `advance N`, `verdict`, `measure N`, `drop`" (`IsCall`). `call_of` finds
-- the call of a line; that it does, and that no line is two calls, is proved in proofs/Calls.
use Rattle.std.specs.Prelude.{ℕ, cond, List, [], ◌∷◌, ◌++◌, length, take, drop, None, Some}
use Rattle.std.specs.declared.option.Option.{Option}
use Rattle.std.specs.Str.{bytes_eq}
use Rattle.call_lines.specs.Number.{IsNumber, number_of}
use Rattle.call_lines.specs.declared.Call.{Call}
use Rattle.call_lines.specs.declared.Call.TheVariants as call

-- the words, those before a number with the blank after them
abbrev pub load_word : List ℕ
load_word = 108 ∷ 111 ∷ 97 ∷ 100 ∷ 32 ∷ []

abbrev pub advance_word : List ℕ
advance_word = 97 ∷ 100 ∷ 118 ∷ 97 ∷ 110 ∷ 99 ∷ 101 ∷ 32 ∷ []

abbrev pub verdict_word : List ℕ
verdict_word = 118 ∷ 101 ∷ 114 ∷ 100 ∷ 105 ∷ 99 ∷ 116 ∷ []

abbrev pub measure_word : List ℕ
measure_word = 109 ∷ 101 ∷ 97 ∷ 115 ∷ 117 ∷ 114 ∷ 101 ∷ 32 ∷ []

abbrev pub drop_word : List ℕ
drop_word = 100 ∷ 114 ∷ 111 ∷ 112 ∷ []

-- the line is this call
pub data IsCall : List ℕ → Call → Type 0 where
  is_load : {digits : List ℕ} {n : ℕ} → IsNumber digits n → IsCall (load_word ++ digits) (call.Load n)
  is_advance : {digits : List ℕ} {n : ℕ} → IsNumber digits n → IsCall (advance_word ++ digits) (call.Advance n)
  is_verdict : IsCall verdict_word call.Verdict
  is_measure : {digits : List ℕ} {n : ℕ} → IsNumber digits n → IsCall (measure_word ++ digits) (call.Measure n)
  is_drop : IsCall drop_word call.Drop

-- ---- which call a line is

-- the number that is all of a line after a word
unfoldable pub number_behind : List ℕ → List ℕ → Option ℕ
number_behind word line = cond (bytes_eq (take (length word) line) word) (number_of (drop (length word) line)) None

abbrev pub load_or : Option ℕ → Option Call → Option Call
load_or (Some n) other = Some (call.Load n)
load_or None other = other

abbrev pub advance_or : Option ℕ → Option Call → Option Call
advance_or (Some n) other = Some (call.Advance n)
advance_or None other = other

abbrev pub measure_or : Option ℕ → Option Call → Option Call
measure_or (Some n) other = Some (call.Measure n)
measure_or None other = other

unfoldable pub call_of : List ℕ → Option Call
call_of line =
    cond (bytes_eq line verdict_word) (Some call.Verdict)
    (cond (bytes_eq line drop_word) (Some call.Drop)
    (load_or (number_behind load_word line)
    (advance_or (number_behind advance_word line)
    (measure_or (number_behind measure_word line) None))))
