-- What the writers return where they end, by what loading gave: a fault, or arrays that hold the text's lines.
use Prim.Native.Nat.{ℕ, ◌+◌, ◌≤◌, ◌<◌}
use mathlib.Core.Path.{◌≡◌, refl, sym, ap, ◌∙◌}
use mathlib.Core.Logic.{◌≢◌}
use mathlib.Core.Bool.{Bool, true, false, cond}
use mathlib.Core.List.{List, ◌∷◌}
use borrow.Author.Tests.{ltb-true, ltb-false}
use lib.Dec.{ltb}
use lib.ListN.{get_or, set, replicate}
use lib.Seq.{sets}
use Rattle.reader.specs.Text.{fields_by_line, count_all, text_of}
use Rattle.writer.specs.Put.{put, put_length}
use Rattle.design.specs.Lines.{design_text}
use Rattle.criteria.specs.Step.{internal_rows}
use Rattle.design.specs.Loaded.{held_lines}
use Rattle.design.specs.Print.{print_lines}
use Rattle.design.specs.declared.Shape.{Shape}
use Rattle.layout.specs.Sizes.{shape_of}
use Rattle.marks.specs.Marks.{internal_in}
use Rattle.loader.specs.Load.{fault_of, held_by, loaded_of}
use Rattle.loader.specs.declared.Loaded.{Loaded}
use Rattle.loader.proofs.Passed.{of_err, of_ok}
use Rattle.std.specs.Prelude.{Result, Ok, Err, IsErrAnd}
use Rattle.verdicts.specs.declared.Fault.{Fault}
use Rattle.verdicts.specs.declared.Refusal.{Refusal}
use Rattle.verdicts.specs.declared.Refusal.TheVariants.{Text}
use Rattle.verdicts.specs.Refusals.{fault_number}
use Rattle.verdicts.proofs.Refusals.{number_is_some}
use Rattle.conversion.specs.Written.{Written}
use Rattle.conversion.specs.Result.{Way, there, back, converted}
use Rattle.conversion.specs.Answer.{told, true_b, every, answer_of, buffer_written}
use Rattle.conversion.specs.Lines.{refused_by, done_with, end_of, marked_lines, marked_answer, marked_buffer}
use Rattle.true_marks.specs.Tens.{tens_in}
use Rattle.conversion.proofs.Held.{shape, internal_is, first_most, marks_tens}
use Rattle.conversion.proofs.Ends.{fault_answer, fault_buffer, other_answer, other_buffer, many_answer, many_buffer, put_answer, put_buffer}
use Rattle.conversion.proofs.Arrays.{left_out, left_fits, kept, kept_fits, converted_count, added}

module _ (text buffer : List ℕ) (q : Result Loaded Fault) (eq : q ≡ loaded_of text) where
  module _ (f : Fault) (e : q ≡ Err f) where
    pub refused_as : (way : Way) → (r : Result ℕ Refusal) → IsErrAnd r (λ (x : Refusal). x ≡ Text f) → told r ≡ answer_of way text buffer
    refused_as way (Ok n) er = absurd er
    refused_as way (Err x) er =
        ap (λ y. told (Err y)) er ∙ fault_answer way text buffer (fault_number f) (sym (of_err text q eq f e)) (number_is_some f) (refused_by (fault_number f)) refl

    pub refused_same : (way : Way) → buffer ≡ buffer_written way text buffer
    refused_same way = fault_buffer way text buffer (fault_number f) (sym (of_err text q eq f e)) (number_is_some f)

  module _ (l : Loaded) (is : q ≡ Ok l) (h : Shape) (eh : h ≡ shape_of l.counts) where
    ok : fault_of text ≡ 0
    ok = (of_ok text q eq l is).0

    held : l ≡ held_by (fields_by_line text)
    held = (of_ok text q eq l is).1

    shape_is : h ≡ shape text ok
    shape_is = eh ∙ ap (λ (x : Loaded). shape_of x.counts) held

    -- ---- back

    module _ (b : Bool) (eb : b ≡ tens_in l.lines.fields l.lines.starts h) where
      plain_is : b ≡ every (every true_b) (design_text text).marks
      plain_is = eb ∙ (rw (held, shape_is) (marks_tens text ok))

      pub other_as : b ≡ false → (r : Written) → r ≡ refused_by 15 → r ≡ answer_of back text buffer
      other_as e = other_answer back text buffer ok (sym plain_is ∙ e)

      pub other_same : b ≡ false → buffer ≡ buffer_written back text buffer
      other_same e = other_buffer back text buffer ok (sym plain_is ∙ e)

      module _ (e : b ≡ true) (n : ℕ) (en : n ≡ h.marks.first) where
        lines_back : held_lines l.lines.fields l.lines.starts n ≡ print_lines (converted back (design_text text))
        lines_back = rw held (left_out text ok n (en ∙ ap (λ (x : Shape). x.marks.first) shape_is))

        pub back_as : (r : Written) → r ≡ done_with (put_length buffer 0 (text_of (held_lines l.lines.fields l.lines.starts n))) → r ≡ answer_of back text buffer
        back_as = put_answer back text buffer ok (sym plain_is ∙ e) (left_fits text ok) (held_lines l.lines.fields l.lines.starts n) lines_back

        pub back_after : (after : List ℕ) → after ≡ put buffer 0 (text_of (held_lines l.lines.fields l.lines.starts n)) → after ≡ buffer_written back text buffer
        back_after = put_buffer back text buffer ok (sym plain_is ∙ e) (left_fits text ok) (held_lines l.lines.fields l.lines.starts n) lines_back

    -- ---- there, with a line of marks

    module _ (some : h.marks.count ≢ 0) (n : ℕ) (en : n ≡ h.marks.first + 1) where
      some_marks : (shape text ok).marks.count ≢ 0
      some_marks z = some (ap (λ (x : Shape). x.marks.count) shape_is ∙ z)

      lines_kept : held_lines l.lines.fields l.lines.starts n ≡ print_lines (converted there (design_text text))
      lines_kept = rw held (kept text ok some_marks n (en ∙ ap (λ (x : Shape). x.marks.first + 1) shape_is))

      pub kept_as : (r : Written) → r ≡ done_with (put_length buffer 0 (text_of (held_lines l.lines.fields l.lines.starts n))) → r ≡ answer_of there text buffer
      kept_as = put_answer there text buffer ok refl (kept_fits text ok some_marks) (held_lines l.lines.fields l.lines.starts n) lines_kept

      pub kept_after : (after : List ℕ) → after ≡ put buffer 0 (text_of (held_lines l.lines.fields l.lines.starts n)) → after ≡ buffer_written there text buffer
      kept_after = put_buffer there text buffer ok refl (kept_fits text ok some_marks) (held_lines l.lines.fields l.lines.starts n) lines_kept

    -- ---- there, and one is added

    pub marks_room : h.marks.first < 84
    marks_room = rw shape_is (first_most text ok)

    module _ (none : h.marks.count ≡ 0)
        (i : ℕ) (ei : i ≡ internal_in l.lines.fields l.lines.starts h.implementation h.implementation.rows.count) where
      abbrev first : ℕ
      first = h.marks.first

      abbrev end : ℕ
      end = end_of l.lines.starts first i

      no_marks : (shape text ok).marks.count ≡ 0
      no_marks = rw shape_is at none

      internal : i ≡ internal_rows (design_text text).impl.rows
      internal = ei ∙ (rw (held, shape_is) (internal_is text ok))

      count : count_all (print_lines (converted there (design_text text))) ≡ end
      count = converted_count text ok no_marks ∙ rw (held, shape_is, internal)

      lines_added : end ≤ 4096 → marked_lines l.lines.fields l.lines.starts first i ≡ print_lines (converted there (design_text text))
      lines_added fit =
          added text ok no_marks (rw (held, shape_is, internal) at fit) (first + 1) (rw shape_is)
          (sets l.lines.fields (get_or l.lines.starts first 0) (8 ∷ replicate i 10)) (set l.lines.starts (first + 1) end)
          (rw (held, shape_is, internal)) (rw (held, shape_is, internal))

      -- by whether there are too many fields
      abbrev Ends : Bool → Type 0
      Ends long =
          ((r : Written) → r ≡ cond long (refused_by 16) (done_with (put_length buffer 0 (text_of (marked_lines l.lines.fields l.lines.starts first i))))
          → r ≡ answer_of there text buffer)
          × ((after : List ℕ) → after ≡ cond long buffer (put buffer 0 (text_of (marked_lines l.lines.fields l.lines.starts first i)))
          → after ≡ buffer_written there text buffer)

      ends : (long : Bool) → ltb 4096 end ≡ long → Ends long
      ends true e =
          let m : 4096 < count_all (print_lines (converted there (design_text text))) = rw count (ltb-true 4096 end e) in
          (many_answer there text buffer ok refl m, λ after ea. ea ∙ many_buffer there text buffer ok refl m)
      ends false e =
          let f = ltb-false 4096 end e in
          let m : count_all (print_lines (converted there (design_text text))) ≤ 4096 = rw count f in
          let lines = marked_lines l.lines.fields l.lines.starts first i in
          (put_answer there text buffer ok refl m lines (lines_added f), put_buffer there text buffer ok refl m lines (lines_added f))

      pub marked_as_lem : (r : Written) → r ≡ marked_answer buffer l.lines.fields l.lines.starts first i → r ≡ answer_of there text buffer
      unfolding marked_answer
      marked_as_lem = (ends (ltb 4096 end) refl).0

      pub marked_after : (after : List ℕ) → after ≡ marked_buffer buffer l.lines.fields l.lines.starts first i → after ≡ buffer_written there text buffer
      unfolding marked_buffer
      marked_after = (ends (ltb 4096 end) refl).1
