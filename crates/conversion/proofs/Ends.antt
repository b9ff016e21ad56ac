-- What a call answers and what its buffer is then, by the number: a fault, another formula than `10`, too many fields, or lines that were put.
use Prim.Native.Nat.{ℕ, ◌+◌, ◌≤◌, ◌<◌}
use mathlib.Core.Path.{◌≡◌, refl, ap, ◌∙◌}
use mathlib.Core.Logic.{◌≢◌}
use mathlib.Core.Bool.{Bool, true, false, cond, ◌||◌}
use mathlib.Core.List.{List, [], ◌∷◌, ◌++◌, map}
use native.Mathlib.Omega.{arith}
use borrow.Author.Tests.{ne_eqb, lt-ltb, le-ltb, leb-true, leb-false}
use lib.Dec.{leb, ltb}
use lib.ListN.{length, drop, length-append}
use lib.Seq.{sets, sets-eq}
use Rattle.reader.specs.Line.{written}
use Rattle.reader.specs.Text.{count_all, text_of}
use Rattle.writer.specs.Put.{put, put_length}
use Rattle.criteria.specs.Design.{Design}
use Rattle.design.specs.Lines.{design_text}
use Rattle.design.specs.Print.{parameter_line, row_line, last_lines, line_of_marks, print_lines}
use Rattle.loader.specs.Load.{fault_of}
use Rattle.conversion.specs.Written.{Written}
use Rattle.conversion.specs.Result.{Way, converted, result_of}
use Rattle.conversion.specs.Answer.{plain_b, too_long_b, number_of, answer_of, buffer_written}
use Rattle.conversion.specs.Lines.{refused_by, done_with}

-- a design has lines, and a text of lines has bytes
lines_some : (x : Design) → 1 ≤ length (print_lines x)
lines_some x =
    let ps = map (parameter_line 1) x.impl.parameters in
    let qs = map (parameter_line 2) x.spec.parameters in
    let rs = map (row_line 3) x.impl.rows in
    let ss = map (row_line 4) x.spec.rows in
    let ends = last_lines x ++ map line_of_marks x.marks in
    let p = length-append ps (qs ++ (rs ++ (ss ++ ends))) in
    let q = length-append qs (rs ++ (ss ++ ends)) in
    let r = length-append rs (ss ++ ends) in
    let s = length-append ss ends in
    omega arith

text_some : (lines : List (List ℕ)) → 1 ≤ length lines → length (text_of lines) ≢ 0
unfolding text_of
text_some [] h z = absurd (omega arith)
text_some (line ∷ lines) h z = let n = length-append (written line) (10 ∷ text_of lines) in omega arith

-- ---- by the number

module _ (way : Way) (text buffer : List ℕ) where
  abbrev number : ℕ
  number = number_of way text (length buffer)

  refused_answer : (k : ℕ) → number ≡ k → k ≢ 0 → refused_by k ≡ answer_of way text buffer
  unfolding answer_of
  refused_answer k e z = rw (e, ne_eqb k 0 z)

  refused_buffer : (k : ℕ) → number ≡ k → k ≢ 0 → buffer ≡ buffer_written way text buffer
  unfolding buffer_written
  refused_buffer k e z = rw (e, ne_eqb k 0 z)

  done_answer : number ≡ 0 → record { number = 0; length = length (result_of way text) } ≡ answer_of way text buffer
  unfolding answer_of
  done_answer e = rw (e)

  done_buffer : number ≡ 0 → result_of way text ++ drop (length (result_of way text)) buffer ≡ buffer_written way text buffer
  unfolding buffer_written
  done_buffer e = rw (e)

  -- ---- a text with a fault

  module _ (k : ℕ) (ek : k ≡ fault_of text) (z : k ≢ 0) where
    fault_number : number ≡ k
    unfolding number_of
    fault_number = rw (← ek, ne_eqb k 0 z)

    pub fault_answer : (r : Written) → r ≡ refused_by k → r ≡ answer_of way text buffer
    fault_answer r e = e ∙ refused_answer k fault_number z

    pub fault_buffer : buffer ≡ buffer_written way text buffer
    fault_buffer = refused_buffer k fault_number z

  -- ---- a design text

  module _ (ok : fault_of text ≡ 0) where
    abbrev result : Design
    result = converted way (design_text text)

    abbrev bytes : List ℕ
    bytes = text_of (print_lines result)

    other_number : plain_b way (design_text text) ≡ false → number ≡ 15
    unfolding number_of
    other_number e = rw (ok, e)

    long_number : plain_b way (design_text text) ≡ true → too_long_b (length buffer) result ≡ true → number ≡ 16
    unfolding number_of
    long_number p e = rw (ok, p, e)

    pub other_answer : plain_b way (design_text text) ≡ false → (r : Written) → r ≡ refused_by 15 → r ≡ answer_of way text buffer
    other_answer e r er = er ∙ refused_answer 15 (other_number e) (λ z. omega arith)

    pub other_buffer : plain_b way (design_text text) ≡ false → buffer ≡ buffer_written way text buffer
    other_buffer e = refused_buffer 15 (other_number e) (λ z. omega arith)

    -- over 4,096 fields
    module _ (p : plain_b way (design_text text) ≡ true) (many : 4096 < count_all (print_lines result)) where
      many_number : number ≡ 16
      many_number = long_number p (rw (lt-ltb 4096 (count_all (print_lines result)) many) (or_yes (ltb (length buffer) (length bytes))))
        where
          or_yes : (b : Bool) → (b || true) ≡ true
          or_yes true = refl
          or_yes false = refl

      pub many_answer : (r : Written) → r ≡ refused_by 16 → r ≡ answer_of way text buffer
      many_answer r er = er ∙ refused_answer 16 many_number (λ z. omega arith)

      pub many_buffer : buffer ≡ buffer_written way text buffer
      many_buffer = refused_buffer 16 many_number (λ z. omega arith)

    fits_number : plain_b way (design_text text) ≡ true → too_long_b (length buffer) result ≡ false → number ≡ 0
    unfolding number_of
    fits_number p e = rw (ok, p, e)

    some_bytes : length bytes ≢ 0
    some_bytes = text_some (print_lines result) (lines_some result)

    module _ (p : plain_b way (design_text text) ≡ true) (fit : count_all (print_lines result) ≤ 4096) where
      abbrev Ends : Bool → Type 0
      Ends room =
          (done_with (cond room (length bytes) 0) ≡ answer_of way text buffer)
          × (cond room (sets buffer 0 bytes) buffer ≡ buffer_written way text buffer)

      -- by whether there is room
      ends : (room : Bool) → leb (0 + length bytes) (length buffer) ≡ room → Ends room
      unfolding done_with
      ends true e =
          let l = leb-true (0 + length bytes) (length buffer) e in
          let z = fits_number p (rw (le-ltb (length buffer) (length bytes) (omega arith), le-ltb 4096 (count_all (print_lines result)) fit)) in
          let n : 0 + length bytes ≡ length bytes = omega arith in
          let put = sets-eq bytes buffer 0 l ∙ (ap (λ (k : ℕ). bytes ++ drop k buffer) n ∙ done_buffer z) in
          (rw (ne_eqb (length bytes) 0 some_bytes) (done_answer z), put)
      ends false e =
          let l = leb-false (0 + length bytes) (length buffer) e in
          let n = long_number p (rw (lt-ltb (length buffer) (length bytes) (omega arith))) in
          (refused_answer 16 n (λ z. omega arith), refused_buffer 16 n (λ z. omega arith))

      -- these lines were written
      module _ (lines : List (List ℕ)) (el : lines ≡ print_lines result) where
        pub put_answer : (r : Written) → r ≡ done_with (put_length buffer 0 (text_of lines)) → r ≡ answer_of way text buffer
        unfolding put_length
        put_answer r er = er ∙ (ap (λ (x : List (List ℕ)). done_with (put_length buffer 0 (text_of x))) el ∙ (ends _ refl).0)

        pub put_buffer : (after : List ℕ) → after ≡ put buffer 0 (text_of lines) → after ≡ buffer_written way text buffer
        unfolding put
        put_buffer after e = e ∙ (ap (λ (x : List (List ℕ)). put buffer 0 (text_of x)) el ∙ (ends _ refl).1)
