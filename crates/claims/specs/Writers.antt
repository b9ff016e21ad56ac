-- Unmarked texts to marked and back (02, order 2): "A writer turns a text without kind 8 into one with it, each formula being `10`, and back. A
-- text already of the wanted sort is copied. Unmarked to marked to unmarked restores every byte, and both texts get the same report." Calls
-- are those of the functions' contracts (specs/Contracted); what is written for which design, and which number is due, is in
-- conversion/specs/Result. It holds: `writers` in proofs/Writers.
use Rattle.std.specs.Prelude.{ℕ, ◌≤◌, ◌≡◌, ◌↔◌, List, length, take, drop}
use Rattle.reader.specs.Text.{fields_by_line}
use Rattle.design.specs.Lines.{count_of, design_text}
use Rattle.design.specs.Faults.{DesignText}
use Rattle.conversion.specs.Result.{Way, there, back, converted, OtherFormula, Refused}
use Rattle.claims.specs.Contracted.{Checks, Writes}

-- how many kind 8 lines the wanted sort has
abbrev pub kind8_lines : Way → ℕ
kind8_lines there = 1
kind8_lines back = 0

-- what a done call wrote: its first r bytes
pub record WrittenResult (way : Way) (text buffer after : List ℕ) (r : ℕ) : Type 0 where
  -- "Past a result, a lent buffer .. keeps its content" (01)
  pub rest_kept : drop r after ≡ drop r buffer
  pub same_room : length after ≡ length buffer
  pub all_written : length (take r after) ≡ r
  -- a design text of the wanted sort, that says the same but for the marks
  pub design_text_lem : DesignText (take r after)
  pub wanted : count_of 8 (fields_by_line (take r after)) ≡ kind8_lines way
  pub says : design_text (take r after) ≡ converted way (design_text text)
  -- "A text already of the wanted sort is copied."
  pub copied : count_of 8 (fields_by_line text) ≡ kind8_lines way → take r after ≡ text

pub record Writers : Type 0 where
  -- a call is done exactly if no number is due (one that is turned down is in Demand1)
  pub done : {way : Way} {text buffer after : List ℕ} {n r : ℕ} → Writes way text buffer n r after
      → (n ≡ 0) ↔ ((k : ℕ) → Refused way text (length buffer) k → ⊥)
  -- "on the way back only, 15 for a formula other than `10`": what Demand1 says of this number, in 02's words
  pub other : {way : Way} {text buffer after : List ℕ} {r : ℕ} → Writes way text buffer 15 r after → (way ≡ back) × OtherFormula (design_text text)
  -- what is written
  pub result : {way : Way} {text buffer after : List ℕ} {r : ℕ} → Writes way text buffer 0 r after → WrittenResult way text buffer after r
  -- "Unmarked to marked to unmarked restores every byte"
  pub restores : {text buffer after buffer' after' : List ℕ} {r r' : ℕ} → count_of 8 (fields_by_line text) ≡ 0
      → Writes there text buffer 0 r after → Writes back (take r after) buffer' 0 r' after' → take r' after' ≡ text
  -- and the way back is turned down for a short buffer alone
  pub way_back : {text buffer after buffer' after' : List ℕ} {n r r' : ℕ} → count_of 8 (fields_by_line text) ≡ 0
      → Writes there text buffer 0 r after → Writes back (take r after) buffer' n r' after' → length text ≤ length buffer' → n ≡ 0
  -- "and both texts get the same report", with any report buffer
  pub same_report : {way : Way} {text buffer after : List ℕ} {r : ℕ} → Writes way text buffer 0 r after
      → {report one other : List ℕ} {a b : ℕ} → Checks text report a one → Checks (take r after) report b other → (a ≡ b) × (one ≡ other)
