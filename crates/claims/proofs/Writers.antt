-- What the writers write is as 02 says, for every call; and what a call turned down answers, for demand 1.
use Prim.Native.Nat.{ℕ, zero, suc, ◌≤◌, ◌<◌}
use mathlib.Core.Path.{◌≡◌, refl, sym, ap, ◌∙◌}
use mathlib.Core.Logic.{◌≢◌, ◌↔◌}
use mathlib.Core.Bool.{true}
use mathlib.Core.List.{List, [], ◌∷◌, ◌++◌}
use native.Mathlib.Omega.{arith}
use borrow.Author.Tests.{ne_eqb}
use lib.ListN.{length, replicate, take, drop, length-append, length-drop}
use lib.Seq.{take-append_seam, drop-append_seam}
use Rattle.foundation.specs.Lowest.{First, here, past}
use Rattle.terms.specs.Tree.{Formula, const}
use Rattle.reader.specs.Text.{fields_by_line, count_all, text_of}
use Rattle.criteria.specs.Design.{Design, with_marks}
use Rattle.criteria.specs.Step.{internal_rows}
use Rattle.decision.specs.Verdict.{verdict_of}
use Rattle.design.specs.Lines.{of_kind, count_of, design_of, design_text}
use Rattle.reader.proofs.Written.{text_written}
use Rattle.design.specs.Faults.{DesignText, second}
use Rattle.design.specs.Print.{print_lines, line_of_marks}
use Rattle.design.proofs.WholeText.{counted}
use Rattle.design.proofs.Printed.{of_8, length-map}
use Rattle.loader.specs.Load.{fault_of}
use Rattle.loader.proofs.Lowest.{free_exactly, fault_number}
use Rattle.loader.proofs.Passed.{lay, fits, lines_printed}
use Rattle.conversion.specs.Result.{Way, there, back, marked_by, converted, result_of, OtherFormula, Refused, fault, formula, long, bytes, fields, TurnedDown}
use Rattle.conversion.specs.Answer.{true_b, every, number_of, answer_of, buffer_written}
use Rattle.conversion.proofs.Due.{no_other, number_due, done_exactly, done_plain}
use Rattle.conversion.proofs.Result.{result_lines, result_design, result_free, result_loads}
use Rattle.conversion.proofs.Verdict.{same_verdict}
use Rattle.checker.specs.OneCall.{design_report, judged_of}
use Rattle.checker.specs.OneCall as one_call
use Rattle.claims.specs.Contracted.{Writes}
use Rattle.claims.specs.Writers.{kind8_lines, WrittenResult, Writers}
use Rattle.claims.proofs.Lists.{answered, written, writer_number, writer_length, writer_buffer}
use Rattle.claims.proofs.OneCall.{judged_free}
use Rattle.claims.proofs.Text.{printed_again}

-- ---- a call by its number

module _ {way : Way} {text buffer after : List ℕ} {n r : ℕ} (w : Writes way text buffer n r after) where
  number_is : n ≡ number_of way text (length buffer)
  unfolding answer_of
  number_is = writer_number w

  pub refused_by_lem : n ≢ 0 → TurnedDown way text (length buffer) n × ((r ≡ 0) × (after ≡ buffer))
  unfolding answer_of buffer_written
  refused_by_lem z =
      let e = number_is in
      let no = ne_eqb (number_of way text (length buffer)) 0 (λ q. z (e ∙ q)) in
      (rw e (number_due way text (length buffer) (λ q. z (e ∙ q))), (writer_length w ∙ rw no, writer_buffer w ∙ rw no))

  done_by : (n ≡ 0) ↔ ((k : ℕ) → Refused way text (length buffer) k → ⊥)
  done_by = rw number_is (done_exactly way text (length buffer))

-- 15 is no other number's
other_by : {way : Way} {text buffer after : List ℕ} {r : ℕ} → Writes way text buffer 15 r after → (way ≡ back) × OtherFormula (design_text text)
other_by {way} {text} {buffer} w = of_15 refl (found (refused_by_lem w (λ z. omega arith)).0)
  where
    found : {ks : List ℕ} {k : ℕ} → First (Refused way text (length buffer)) ks k → Refused way text (length buffer) k
    found (here x) = x
    found (past n f) = found f

    of_15 : {k : ℕ} → k ≡ 15 → Refused way text (length buffer) k → (way ≡ back) × OtherFormula (design_text text)
    of_15 e (fault f) = let h = (fault_number f).1 in absurd (omega arith)
    of_15 e (formula v o) = (v, o)
    of_15 e (long t) = absurd (omega arith)

-- ---- the converted design, of a design text

module _ (text : List ℕ) (ok : fault_of text ≡ 0) where
  abbrev d : Design
  d = design_text text

  marks_length : length d.marks ≡ count_of 8 (fields_by_line text)
  unfolding design_of
  marks_length = length-map _ (of_kind 8 (fields_by_line text))

  marks_converted : (way : Way) → length (converted way d).marks ≡ kind8_lines way
  marks_converted back = refl
  marks_converted there = go d.marks marks_length
    where
      go : (ms : List (List Formula)) → length ms ≡ count_of 8 (fields_by_line text) → length (marked_by ms (internal_rows d.impl.rows)) ≡ 1
      go [] e = refl
      go (fs ∷ []) e = refl
      go (a ∷ b ∷ ms) e = let c = (counted (lay text ok)).kind8 in absurd (omega arith)

  -- of the wanted sort already
  same_converted : (way : Way) → count_of 8 (fields_by_line text) ≡ kind8_lines way → converted way d ≡ d
  same_converted there e = ap (with_marks d) (go d.marks (marks_length ∙ e))
    where
      go : (ms : List (List Formula)) → length ms ≡ 1 → marked_by ms (internal_rows d.impl.rows) ≡ ms
      go [] q = absurd (omega arith)
      go (fs ∷ ms) q = refl
  same_converted back e = ap (with_marks d) (sym (go d.marks (marks_length ∙ e)))
    where
      go : (ms : List (List Formula)) → length ms ≡ 0 → ms ≡ []
      go [] q = refl
      go (fs ∷ ms) q = absurd (omega arith)

-- ---- a call that is done

module _ {way : Way} {text buffer after : List ℕ} {r : ℕ} (w : Writes way text buffer 0 r after) where
  none_due : number_of way text (length buffer) ≡ 0
  none_due = sym (number_is w)

  free : (k : ℕ) → Refused way text (length buffer) k → ⊥
  free = (done_by w).0 refl

  is : DesignText text
  is k f = free k (fault f)

  ok : fault_of text ≡ 0
  ok = (free_exactly text).1 is

  length_is : r ≡ length (result_of way text)
  unfolding answer_of
  length_is = writer_length w ∙ rw none_due

  after_is : after ≡ result_of way text ++ drop (length (result_of way text)) buffer
  unfolding buffer_written
  after_is = writer_buffer w ∙ rw none_due

  room : length (result_of way text) ≤ length buffer
  room = let g : length buffer < length (result_of way text) → ⊥ = λ h. free 16 (long (bytes h)) in omega arith

  fit : count_all (print_lines (converted way (design_text text))) ≤ 4096
  fit = let g : 4096 < count_all (print_lines (converted way (design_text text))) → ⊥ = λ h. free 16 (long (fields h)) in omega arith

  written_is : take r after ≡ result_of way text
  written_is = rw (after_is, length_is) (take-append_seam (result_of way text) (drop (length (result_of way text)) buffer))

  says_is : design_text (take r after) ≡ converted way (design_text text)
  says_is = ap design_text written_is ∙ result_design text ok way

  result_by : WrittenResult way text buffer after r
  result_by = record {
    rest_kept = rw (after_is, length_is) (drop-append_seam (result_of way text) (drop (length (result_of way text)) buffer));
    same_room = ap length after_is ∙ (length-append (result_of way text) _ ∙ omega (arith, room, length-drop (length (result_of way text)) buffer));
    all_written = ap length written_is ∙ sym length_is;
    design_text_lem = rw written_is (result_free text ok way fit);
    wanted =
        ap (λ (t : List ℕ). count_of 8 (fields_by_line t)) written_is
        ∙ (ap (count_of 8) (result_lines text ok way)
        ∙ (ap length (of_8 (converted way (design_text text)))
        ∙ (length-map line_of_marks (converted way (design_text text)).marks ∙ marks_converted text ok way)));
    says = says_is;
    copied = λ e. written_is ∙ (ap (λ (x : Design). text_of (print_lines x)) (same_converted text ok way e) ∙ printed_again text is);
  }

  -- the report
  judged_same : judged_of (take r after) ≡ judged_of text
  judged_same =
      judged_free (take r after) (rw written_is (result_loads text ok way fit))
      ∙ (ap design_report (ap verdict_of says_is ∙ same_verdict text ok way (done_plain way text (length buffer) none_due)) ∙ sym (judged_free text ok))

-- ---- there and back

all_true : (n : ℕ) → every true_b (replicate n (const true)) ≡ true
unfolding every
all_true zero = refl
all_true (suc n) = all_true n

module _ {text buffer after : List ℕ} {r : ℕ} (none : count_of 8 (fields_by_line text) ≡ 0) (w : Writes there text buffer 0 r after) where
  marks_none : (design_text text).marks ≡ []
  marks_none = ap (λ (x : Design). x.marks) (sym (same_converted text (ok w) back none))

  -- each formula that was added is `10`
  added_true : every (every true_b) (design_text (take r after)).marks ≡ true
  unfolding every
  added_true = rw (says_is w, marks_none, all_true (internal_rows (design_text text).impl.rows))

  same_lines : print_lines (converted back (design_text (take r after))) ≡ fields_by_line text
  same_lines =
      ap (λ (x : Design). print_lines (converted back x)) (says_is w)
      ∙ (ap print_lines (same_converted text (ok w) back none) ∙ lines_printed text (ok w))

  -- what is written back is the text
  restored : result_of back (take r after) ≡ text
  restored = ap text_of same_lines ∙ text_written text (λ f. is w 2 (second f))

  back_free : {room : ℕ} → length text ≤ room → (k : ℕ) → Refused back (take r after) room k → ⊥
  back_free l k (fault f) = (result_by w).design_text_lem k f
  back_free l k (formula v o) = no_other (design_text (take r after)) added_true o
  back_free {room} l k (long (bytes h)) = let e = ap length restored in omega arith
  back_free l k (long (fields h)) = let e = ap count_all same_lines in let f = fits text (ok w) in omega arith

answer_same : (s t report : List ℕ) → judged_of s ≡ judged_of t → one_call.answer_of s report ≡ one_call.answer_of t report
unfolding one_call.answer_of
answer_same s t report e = rw e

buffer_same : (s t report : List ℕ) → judged_of s ≡ judged_of t → one_call.buffer_written s report ≡ one_call.buffer_written t report
unfolding one_call.buffer_written
buffer_same s t report e = rw e

pub writers : Writers
writers = record {
  done = done_by;
  other = other_by;
  result = result_by;
  restores = λ none there-call back-call. written_is back-call ∙ restored none there-call;
  way_back = λ none there-call back-call l. (done_by back-call).1 (back_free none there-call l);
  same_report = λ {text = text} {after = after} {r = r} w {report = report} x y.
      let j = sym (judged_same w) in (
        answered x ∙ (answer_same text (take r after) report j ∙ sym (answered y)),
        written x ∙ (buffer_same text (take r after) report j ∙ sym (written y)),
      );
}
