-- What the arrays hold as lines: those of the result, where the line of marks is left out (`left_out`), is there (`kept`) or is added
-- (`added`).
use Prim.Native.Nat.{ℕ, zero, suc, ◌+◌, ◌≤◌}
use mathlib.Core.Path.{◌≡◌, refl, sym, ap, ◌∙◌}
use mathlib.Core.Logic.{◌≢◌}
use mathlib.Core.Bool.{true}
use mathlib.Core.List.{List, [], ◌∷◌, ◌++◌}
use native.Mathlib.Omega.{arith}
use lib.ListN.{length, get_or, set, take, replicate, length-append, length-replicate}
use lib.Seq.{sets, take-append_seam}
use Rattle.terms.specs.Tree.{Formula, const}
use Rattle.terms.specs.Print.{print_f}
use Rattle.reader.specs.Text.{fields_by_line, count_all}
use Rattle.criteria.specs.Design.{Design, with_marks}
use Rattle.criteria.specs.Step.{internal_rows}
use Rattle.design.specs.Lines.{of_kind, design_text}
use Rattle.design.specs.Print.{print_formulas, line_of_marks, print_lines}
use Rattle.design.specs.Loaded.{held_lines, fields_held, starts_held}
use Rattle.design.proofs.Printed.{marks_last}
use Rattle.design.proofs.Loaded.{fields_more, starts_more, lines_held, first_held}
use Rattle.loader.specs.Load.{fault_of}
use Rattle.loader.proofs.Passed.{few, fits, lines_printed}
use Rattle.conversion.specs.Result.{there, back, marked_by, converted}
use Rattle.conversion.proofs.Held.{front, shape, lines_are, marks_count, front_length, all_counted, first_most, one_most, marks_start}

-- a line of marks, each formula being `10`
tens_line : (n : ℕ) → line_of_marks (replicate n (const true)) ≡ 8 ∷ replicate n 10
unfolding print_f
tens_line n = ap (λ r. 8 ∷ r) (go n)
  where
    go : (n : ℕ) → print_formulas (replicate n (const true)) ≡ replicate n 10
    go zero = refl
    go (suc n) = ap (λ r. 10 ∷ r) (go n)

count_append : (lines more : List (List ℕ)) → count_all (lines ++ more) ≡ count_all lines + count_all more
unfolding count_all
count_append [] more = omega arith
count_append (l ∷ lines) more = let e = count_append lines more in omega arith

count_more : (lines : List (List ℕ)) (line : List ℕ) → count_all (lines ++ line ∷ []) ≡ count_all lines + length line
unfolding count_all
count_more lines line = let e = count_append lines (line ∷ []) in omega arith

module _ (text : List ℕ) (ok : fault_of text ≡ 0) where
  abbrev lines : List (List ℕ)
  lines = fields_by_line text

  abbrev d : Design
  d = design_text text

  abbrev internal : ℕ
  internal = internal_rows d.impl.rows

  -- without the line of marks
  pub left_out : (n : ℕ) → n ≡ (shape text ok).marks.first → held_lines (fields_held lines) (starts_held lines) n ≡ print_lines (converted back d)
  left_out n e =
      let k = e ∙ front_length text ok in
      first_held lines (few text ok) (fits text ok) n (omega (arith, all_counted text ok))
      ∙ (rw k (ap (take (length (front text ok))) (lines_are text ok) ∙ take-append_seam (front text ok) (of_kind 8 lines)))

  pub left_fits : count_all (print_lines (converted back d)) ≤ 4096
  left_fits =
      let e = ap count_all (lines_are text ok) ∙ count_append (front text ok) (of_kind 8 lines) in
      let f = fits text ok in
      omega arith

  -- with it, where it was there
  module _ (some : (shape text ok).marks.count ≢ 0) where
    stays : print_lines (converted there d) ≡ lines
    stays = ap (λ ms. print_lines (with_marks d ms)) (sym (marks_stay d.marks (λ z. some (marks_count text ok ∙ z)))) ∙ lines_printed text ok
      where
        marks_stay : (ms : List (List Formula)) → length ms ≢ 0 → ms ≡ marked_by ms internal
        marks_stay [] z = absurd (z refl)
        marks_stay (fs ∷ ms) z = refl

    pub kept : (n : ℕ) → n ≡ (shape text ok).marks.first + 1 → held_lines (fields_held lines) (starts_held lines) n ≡ print_lines (converted there d)
    kept n e =
        let m = one_most text ok in
        let all : length lines ≡ n = omega (arith, all_counted text ok) in
        rw (← all) (lines_held lines (few text ok) (fits text ok)) ∙ sym stays

    pub kept_fits : count_all (print_lines (converted there d)) ≤ 4096
    kept_fits = let e = ap count_all stays in let f = fits text ok in omega arith

  -- and where it is added
  module _ (none : (shape text ok).marks.count ≡ 0) where
    no_marks : d.marks ≡ []
    no_marks = no_length d.marks (sym (marks_count text ok) ∙ none)
      where
        no_length : {A : Type 0} (xs : List A) → length xs ≡ 0 → xs ≡ []
        no_length [] e = refl
        no_length (x ∷ xs) e = absurd (omega arith)

    abbrev more : List (List ℕ)
    more = lines ++ (8 ∷ replicate internal 10) ∷ []

    front_all : front text ok ≡ lines
    front_all = ap (λ ms. print_lines (with_marks d ms)) (sym no_marks) ∙ lines_printed text ok

    converted_lines : print_lines (converted there d) ≡ more
    converted_lines =
        ap (λ ms. print_lines (with_marks d (marked_by ms internal))) no_marks
        ∙ (marks_last d (replicate internal (const true) ∷ [])
        ∙ (ap (λ r. r ++ line_of_marks (replicate internal (const true)) ∷ []) front_all ∙ ap (λ (r : List ℕ). lines ++ r ∷ []) (tens_line internal)))

    abbrev at : ℕ
    at = get_or (starts_held lines) (shape text ok).marks.first 0

    starts_at : at ≡ count_all lines
    starts_at = ap (λ (i : ℕ). get_or (starts_held lines) i 0) (front_length text ok) ∙ (marks_start text ok ∙ ap count_all front_all)

    pub converted_count : count_all (print_lines (converted there d)) ≡ at + 1 + internal
    converted_count =
        ap count_all converted_lines
        ∙ (count_more lines (8 ∷ replicate internal 10) ∙ omega (arith, starts_at, length-replicate {A = ℕ} internal 10))

    module _ (fit : at + 1 + internal ≤ 4096) (n : ℕ) (en : n ≡ (shape text ok).marks.first + 1)
        (fields starts : List ℕ) (ef : fields ≡ sets (fields_held lines) at (8 ∷ replicate internal 10))
        (es : starts ≡ set (starts_held lines) ((shape text ok).marks.first + 1) (at + 1 + internal)) where
      pub added : held_lines fields starts n ≡ print_lines (converted there d)
      added =
          let m : List ℕ = 8 ∷ replicate internal 10 in
          let size : length (replicate {A = ℕ} internal 10) ≡ internal = length-replicate {A = ℕ} internal 10 in
          let place = starts_at in
          let all = all_counted text ok in
          let most = first_most text ok in
          let end : at + 1 + internal ≡ count_all lines + length m = omega arith in
          let first : (shape text ok).marks.first + 1 ≡ length lines + 1 = omega arith in
          let long : length more ≡ length lines + 1 = length-append lines (m ∷ []) in
          let total : count_all more ≡ count_all lines + length m = count_more lines m in
          let held-fields : fields ≡ fields_held more = ef ∙ (ap (λ (k : ℕ). sets (fields_held lines) k m) starts_at ∙ fields_more lines m) in
          let held-starts : starts ≡ starts_held more = es ∙ (rw (first, end) (starts_more lines m)) in
          let count : n ≡ length more = omega arith in
          rw (held-fields, held-starts, count) (lines_held more (omega arith) (omega arith)) ∙ sym converted_lines
