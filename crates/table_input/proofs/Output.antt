-- The 31 bytes of a report are all of the output; a full room stands for every text that begins with it.
use Prim.Native.Nat.{ℕ, ◌≤◌, min}
use Rattle.std.proofs.lemmas.List.{take_min}
use mathlib.Core.Path.{◌≡◌, refl, sym, ap, ◌∙◌}
use mathlib.Core.List.{List, [], append-nil}
use native.Mathlib.Omega.{arith}
use borrow.Author.Tests.{le-ltb}
use lib.ListN.{length, take, drop_of_length-le}
use lib.Seq.{take_all}
use Rattle.columns.specs.Columns.{columns_of}
use Rattle.reader.specs.Line.{written}
use Rattle.reader.specs.Text.{text_of}
use Rattle.writer.specs.Report.{report_bytes}
use Rattle.verdicts.specs.declared.Report.{Report}
use Rattle.checker.specs.OneCall.{judged_of, buffer_written}
use Rattle.checker.proofs.Cut.{judged_cut}
use Rattle.std.specs.Prelude.{Ok, Err}
use Rattle.std.specs.declared.result.Result.{Result}
use Rattle.std.specs.declared.io.Error.{Error}
use Rattle.streams.specs.declared.Input.{Input}
use Rattle.streams.specs.declared.Input.TheVariants as input
use Rattle.table_input.specs.Output.{IsInput, output_of}

-- ---- the report on the first bytes

report_length : (r : Report) → length (report_bytes r) ≡ 31
unfolding report_bytes text_of written columns_of
report_length r = refl

buffer_all : (text b : List ℕ) → length b ≡ 31 → buffer_written text b ≡ report_bytes (judged_of text)
unfolding buffer_written
buffer_all text b h =
    let l : 31 ≤ length b = omega arith in
    let m : length b ≤ 31 = omega arith in
    rw (le-ltb (length b) 31 l, drop_of_length-le b m) (append-nil (report_bytes (judged_of text)))

pub start_report : (n k : ℕ) (room b after : List ℕ) → length b ≡ 31 → k ≡ min n (length room) → after ≡ buffer_written (take k room) b
    → after ≡ report_bytes (judged_of (take n room))
start_report n k room b after h ek e = e ∙ (rw ek (buffer_all (take (min n (length room)) room) b h) ∙ ap (λ t. report_bytes (judged_of t)) (take_min n room))

-- ---- the output

module _ (r : Report) (after : List ℕ) (k : ℕ) (z : k ≡ 31) (e : after ≡ report_bytes r) where
  pub counted : k ≤ length after
  counted = let l : length after ≡ 31 = ap length e ∙ report_length r in omega arith

  all_taken : take k after ≡ after
  all_taken = let l : length after ≡ 31 = ap length e ∙ report_length r in take_all k after (omega arith)

  pub counted_again : k ≡ length (take k after)
  counted_again =
      let l : length after ≡ 31 = ap length e ∙ report_length r in
      let m : length (take k after) ≡ length after = ap length all_taken in
      omega arith

  taken : take k after ≡ report_bytes r
  taken = all_taken ∙ e

module _ (i : Result Input Error) (room after : List ℕ) (k : ℕ) (z : k ≡ 31) where
  pub ended : (n : ℕ) → i ≡ Ok (input.Ended n) → after ≡ report_bytes (judged_of (take n room)) → take k after ≡ output_of i room
  unfolding output_of
  ended n ei e = rw ei (taken (judged_of (take n room)) after k z e)

  -- where the end was told the input is what was read
  pub ended_input : (n : ℕ) → i ≡ Ok (input.Ended n) → after ≡ report_bytes (judged_of (take n room))
      → (text : List ℕ) → IsInput i room text → take k after ≡ report_bytes (judged_of text)
  ended_input n ei e text s =
      let same : text ≡ take n room = rw ei at s in
      taken (judged_of (take n room)) after k z e ∙ ap (λ t. report_bytes (judged_of t)) (sym same)

  full_report : after ≡ report_bytes (judged_of (take 28673 room)) → after ≡ report_bytes (judged_of room)
  full_report e = e ∙ ap report_bytes (judged_cut room)

  pub full : i ≡ Ok input.Full → after ≡ report_bytes (judged_of (take 28673 room)) → take k after ≡ output_of i room
  unfolding output_of
  full ei e = rw ei (taken (judged_of room) after k z (full_report e))

  -- a full room is the start of the input
  pub full_input : i ≡ Ok input.Full → length room ≡ 28673 → after ≡ report_bytes (judged_of (take 28673 room))
      → (text : List ℕ) → IsInput i room text → take k after ≡ report_bytes (judged_of text)
  full_input ei l e text s =
      let at_room : take (length room) text ≡ room = rw ei at s in
      let start : take 28673 text ≡ room = rw l at at_room in
      taken (judged_of room) after k z (full_report e)
      ∙ (ap (λ t. report_bytes (judged_of t)) (sym start) ∙ ap report_bytes (judged_cut text))

module _ (i : Result Input Error) (room : List ℕ) (error : Error) (ei : i ≡ Err error) where
  pub failed : [] ≡ output_of i room
  unfolding output_of
  failed = rw ei

  -- where a read failed no input is known
  pub failed_input : (bytes text : List ℕ) → IsInput i room text → bytes ≡ report_bytes (judged_of text)
  failed_input bytes text s = absurd (rw ei at s)
