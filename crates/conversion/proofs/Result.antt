-- What is written for a design text has just the lines of the converted design (`result_lines`), says that design (`result_design`) and, if it
-- is of no more than 4,096 fields, is a design text (`result_free`).
use Prim.Native.Nat.{ℕ, zero, suc, ◌≤◌}
use mathlib.Core.Path.{◌≡◌, refl, ap, ◌∙◌}
use mathlib.Core.Bool.{Bool, true, false, cond}
use mathlib.Core.List.{List, [], ◌∷◌}
use native.Mathlib.Omega.{arith}
use lib.Dec.{eqb}
use lib.ListN.{length, replicate, length-replicate}
use Rattle.foundation.specs.Nth.{EachIs}
use Rattle.foundation.proofs.Nth.{nth_nil, nth_cons}
use Rattle.terms.specs.Tree.{Formula, const, ok_f}
use Rattle.terms.specs.Depth.{depth_f}
use Rattle.terms.specs.Print.{print_f}
use Rattle.reader.specs.Line.{Each16}
use Rattle.reader.specs.Line as line
use Rattle.reader.specs.Text.{fields_by_line, count_all}
use Rattle.reader.proofs.Written.{written_lines}
use Rattle.criteria.specs.Design.{Design, Row, with_marks}
use Rattle.criteria.specs.Step.{internal_rows}
use Rattle.design.specs.Line.{row_of}
use Rattle.design.specs.Lines.{of_kind, count_of, design_of, design_text}
use Rattle.design.specs.Faults.{DesignText}
use Rattle.design.specs.Print.{print_formulas, print_lines, FormulasFit, none, then_formula}
use Rattle.design.proofs.WholeText.{counted}
use Rattle.design.proofs.Printed.{length-map}
use Rattle.design.proofs.Faultless.{Faultless, text_faultless, faultless_text}
use Rattle.design.proofs.LastLine.{MarksLine, design_other, faultless_other}
use Rattle.loader.specs.Load.{fault_of}
use Rattle.loader.proofs.Loading.{few_lines}
use Rattle.loader.proofs.Lowest.{free_exactly}
use Rattle.loader.proofs.Passed.{lay, is_design_text, lines_printed}
use Rattle.conversion.specs.Result.{Way, there, back, marked_by, converted, result_of}

-- ---- a line of formulas that are true, one for each internal row, of which there are at most 32

abbrev trues : ℕ → List Formula
trues i = replicate i (const true)

trues_fit : (n i : ℕ) → FormulasFit n (trues i)
unfolding ok_f depth_f
trues_fit n zero = none
trues_fit n (suc i) = then_formula {f = const true} (record { well_formed = refl; shallow = omega arith }) (trues_fit n i)

trues_fields : (i : ℕ) → Each16 (print_formulas (trues i))
unfolding print_f
trues_fields zero = line.none
trues_fields (suc i) = line.more {n = 10} (omega arith) (trues_fields i)

trues_length : (i : ℕ) → length (print_formulas (trues i)) ≡ i
unfolding print_f
trues_length zero = refl
trues_length (suc i) = ap suc (trues_length i)

trues_line : (d : Design) → internal_rows d.impl.rows ≤ 32 → MarksLine d (trues (internal_rows d.impl.rows))
trues_line d few =
    let i : ℕ = internal_rows d.impl.rows in
    record {
      fit = record { formulas = trues_fit (length d.impl.parameters) i; all_marks = length-replicate i (const true) };
      fields = line.more {n = 8} (omega arith) (trues_fields i);
      short = omega (arith, trues_length i);
    }

internal_rows_lem : (rows : List Row) → internal_rows rows ≤ length rows
unfolding internal_rows
internal_rows_lem [] = omega arith
internal_rows_lem (r ∷ rows) = go (eqb r.action 0) (internal_rows_lem rows)
  where
    go : (is : Bool) → internal_rows rows ≤ length rows → cond is (suc (internal_rows rows)) (internal_rows rows) ≤ suc (length rows)
    go true h = omega arith
    go false h = omega arith

-- ---- the lines of the converted design

-- they are those of a design text, and say the design
record Sound (d : Design) : Type 0 where
  faultless : Faultless (print_lines d)
  says : design_of (print_lines d) ≡ d

module _ (text : List ℕ) (ok : fault_of text ≡ 0) where
  abbrev d : Design
  d = design_text text

  copied : Sound d
  copied = record {
    faultless = rw (lines_printed text ok) (text_faultless text (is_design_text text ok));
    says = ap design_of (lines_printed text ok);
  }

  with_marks_lem : (ms : List (List Formula)) → length ms ≤ 1 → EachIs ms (MarksLine d) → Sound (with_marks d ms)
  with_marks_lem ms few can-be = record {
    faultless = faultless_other d ms few can-be copied.says copied.faultless;
    says = design_other d ms few can-be copied.says;
  }

  few_internal : internal_rows d.impl.rows ≤ 32
  unfolding design_of
  few_internal =
      let lines = fields_by_line text in
      let rows = (counted (lay text ok)).kind3 in
      omega (arith, internal_rows_lem d.impl.rows, length-map (row_of (count_of 1 lines)) (of_kind 3 lines))

  marked : (ms : List (List Formula)) → d.marks ≡ ms → Sound (with_marks d (marked_by ms (internal_rows d.impl.rows)))
  marked [] e =
      with_marks_lem (trues (internal_rows d.impl.rows) ∷ []) (omega arith)
      (nth_cons (MarksLine d) (trues_line d few_internal) (λ k fs at. absurd (nth_nil at)))
  marked (fs ∷ ms) e = rw (← e) copied

  sound : (way : Way) → Sound (converted way d)
  sound there = marked d.marks refl
  sound back = with_marks_lem [] (omega arith) (λ k fs at. absurd (nth_nil at))

  -- ---- so

  module _ (way : Way) where
    pub result_lines : fields_by_line (result_of way text) ≡ print_lines (converted way (design_text text))
    result_lines = written_lines (sound way).faultless.fields

    pub result_design : design_text (result_of way text) ≡ converted way (design_text text)
    result_design = ap design_of result_lines ∙ (sound way).says

    module _ (fit : count_all (print_lines (converted way (design_text text))) ≤ 4096) where
      pub result_free : DesignText (result_of way text)
      result_free = let f = (sound way).faultless in faultless_text f (few_lines (print_lines (converted way d)) f.layout) fit

      -- in the words of loading
      pub result_loads : fault_of (result_of way text) ≡ 0
      result_loads = (free_exactly (result_of way text)).1 result_free
