-- The pump table of 01 and its nine variants as texts: each is a design text, and the desk and the one-call check come to what 01 says
-- (`pump_reports`), from the criteria (the crate pump has the designs); the same of the tables with marks (`retry_reports`) and of those
-- that may begin with an internal step (`first_step_reports`); and 01's own lines (`given_lines`) and those of examples/retry.txt
-- (`retry_lines`). The two that are advanced by 5 are in PumpByFive.
use Prim.Native.Nat.{suc}
use mathlib.Core.Path.{◌≡◌, refl, sym, ap, ◌∙◌, subst}
use mathlib.Core.List.{List, [], ◌∷◌, ◌++◌}
use lib.ListN.{drop}
use Rattle.foundation.specs.First.{all_in_range}
use Rattle.foundation.specs.Nth.{EachIs, first, later}
use Rattle.foundation.proofs.Nth.{nth_nil, nth_cons}
use Rattle.columns.specs.Columns.{column_of, columns_of, digit_of, shown_after, bytes_agree, field_of}
use Rattle.reader.specs.Line.{written, fields_from, fields_of}
use Rattle.reader.specs.Text.{lines_of, last_of, count_all, text_of, is_line, any_line, fault2, fault3, lines_fault, columns_fault, fields_by_line}
use Rattle.writer.specs.Report as bytes
use Rattle.terms.specs.Tree.{eval_v, ok_v}
use Rattle.terms.specs.Depth.{depth_v}
use Rattle.terms.specs.Mark.{value_mark, formula_mark}
use Rattle.terms.specs.Read.{read_v}
use Rattle.terms.specs.Print.{print_v, print_f}
use Rattle.criteria.specs.Step.{internal_rows}
use Rattle.criteria.specs.Verdict.{Demand2}
use Rattle.decision.specs.Verdict.{verdict_of}
use Rattle.decision.proofs.Demand2.{demand2, one_verdict}
use Rattle.pump.specs.Table.{given, Case, cases, Right}
use Rattle.pump.specs.Retry.{marked, sum_is, retry, marked_cases}
use Rattle.pump.proofs.Reports.{ten_reports}
use Rattle.pump.specs.FirstStep.{first_cases}
use Rattle.pump.proofs.Retry.{marked_reports}
use Rattle.pump.proofs.FirstStep as first_step
use Rattle.design.specs.Line.{values_in, formulas_in, formulas_used}
use Rattle.design.specs.Lines.{of_kind, design_of, design_text}
use Rattle.kinds.specs.Kinds.{entry_in, last_in}
use Rattle.design.specs.Tests.{climbs, each_line_is, layout_fits, bounds_fit}
use Rattle.design.specs.Faults.{of_rank, DesignText}
use Rattle.design.specs.Print.{print_lines}
use Rattle.line_check.specs.LineFits.{terms_fit, line_fits}
use Rattle.action_check.specs.ActionsFit.{actions_fit}
use Rattle.loader.specs.Load.{fault_of, table_fault}
use Rattle.loader.proofs.Lowest.{free_exactly}
use Rattle.checker.specs.OneCall.{design_report, judged_of}
use Rattle.claims.specs.Pump.{text_for, Reports}
use Rattle.claims.specs.Demand2.{Comes}
use Rattle.claims.proofs.Demand2.{claim2}
use Rattle.claims.proofs.Lists.{answered, written as written_as}
use Rattle.claims.proofs.OneCall.{long_answer, long_buffer, judged_free}

abbrev Loaded : List Case → Type 0
Loaded [] = Unit {0}
Loaded (c ∷ cs) = ((fault_of (text_for c) ≡ 0) × (design_of (fields_by_line (text_for c)) ≡ c.table)) × Loaded cs

loaded : Loaded cases × (Loaded marked_cases × Loaded first_cases)
unfolding cases marked_cases first_cases internal_rows formulas_in formulas_used column_of columns_of digit_of shown_after bytes_agree field_of written fields_from fields_of lines_of last_of count_all text_of is_line any_line fault2 fault3 lines_fault columns_fault print_v print_f eval_v value_mark formula_mark values_in of_kind design_of entry_in last_in of_rank climbs each_line_is layout_fits bounds_fit terms_fit line_fits actions_fit table_fault fault_of read_v ok_v depth_v all_in_range
loaded = (((refl, refl), ((refl, refl), ((refl, refl), ((refl, refl), ((refl, refl), ((refl, refl), ((refl, refl), ((refl, refl), ((refl, refl), ((refl, refl), tt)))))))))), (((refl, refl), ((refl, refl), ((refl, refl), ((refl, refl), ((refl, refl), ((refl, refl), ((refl, refl), ((refl, refl), ((refl, refl), ((refl, refl), ((refl, refl), ((refl, refl), tt)))))))))))), ((refl, refl), ((refl, refl), ((refl, refl), ((refl, refl), ((refl, refl), tt)))))))

-- ---- what is reported

module _ (c : Case) (free : fault_of (text_for c) ≡ 0) (same : design_of (fields_by_line (text_for c)) ≡ c.table) (right : Right c) where
  is_text : DesignText (text_for c)
  is_text = (free_exactly (text_for c)).0 free

  comes_so : Comes (text_for c) (verdict_of c.table)
  comes_so =
      let k = claim2 (text_for c) is_text in
      let due : Demand2 (design_text (text_for c)) (verdict_of c.table) = subst (λ d. Demand2 d (verdict_of c.table)) (sym same) (demand2 c.table right.admitted) in
      subst (Comes (text_for c)) (one_verdict (design_text (text_for c)) k.verdict (verdict_of c.table) k.is due) k.comes

  said : design_report (verdict_of c.table) ≡ c.says
  said =
      let v = one_verdict c.table (verdict_of c.table) right.verdict (demand2 c.table right.admitted) right.right in
      ap design_report v ∙ right.reported

  judged : judged_of (text_for c) ≡ c.says
  judged = judged_free (text_for c) free ∙ ap (λ d. design_report (verdict_of d)) same ∙ said

  reports_so : Reports c
  reports_so = record {
    is_text = is_text;
    says_table = same;
    comes = comes_so;
    answers = λ {report} k l. answered k ∙ long_answer (text_for c) report l ∙ ap (λ j. j.verdict) judged;
    reports = λ {report} k l. written_as k ∙ long_buffer (text_for c) report l ∙ ap (λ j. bytes.report_bytes j ++ drop 31 report) judged;
  }

each_reports : (cs : List Case) → Loaded cs → EachIs cs Right → EachIs cs Reports
each_reports [] l r = λ k x at. absurd (nth_nil at)
each_reports (c ∷ cs) l r = nth_cons Reports (reports_so c l.0.0 l.0.1 (r 1 c first)) (each_reports cs l.1 (λ k x at. r (suc k) x (later at)))

pub pump_reports : EachIs cases Reports
pump_reports = each_reports cases loaded.0 ten_reports

pub retry_reports : EachIs marked_cases Reports
retry_reports = each_reports marked_cases loaded.1.0 marked_reports

pub first_step_reports : EachIs first_cases Reports
first_step_reports = each_reports first_cases loaded.1.1 first_step.first_reports

-- "exactly `     1     8     9     3     0` and byte 10"
pub wrong_data_bytes : bytes.report_bytes (record { verdict = 1; number = 8; state = 9; row = 3; sum = 0 })
    ≡ 32 ∷ 32 ∷ 32 ∷ 32 ∷ 32 ∷ 49 ∷ 32 ∷ 32 ∷ 32 ∷ 32 ∷ 32 ∷ 56 ∷ 32 ∷ 32 ∷ 32 ∷ 32 ∷ 32 ∷ 57 ∷ 32 ∷ 32 ∷ 32 ∷ 32 ∷ 32 ∷ 51 ∷ 32 ∷ 32 ∷ 32 ∷ 32 ∷ 32 ∷ 48 ∷ 10 ∷ []
unfolding column_of columns_of bytes.report_bytes text_of written
wrong_data_bytes = refl

-- "Fields, each in six columns in the text", number by number
pub given_lines : print_lines given
    ≡ (1 ∷ 3 ∷ 0 ∷ [])
    ∷ (1 ∷ 4 ∷ 0 ∷ [])
    ∷ (2 ∷ 2 ∷ 0 ∷ [])
    ∷ (2 ∷ 4 ∷ 0 ∷ [])
    ∷ (3 ∷ 1 ∷ 4 ∷ 12 ∷ 1 ∷ 0 ∷ 0 ∷ 0 ∷ 2 ∷ 0 ∷ 1 ∷ 2 ∷ [])
    ∷ (3 ∷ 0 ∷ 1 ∷ 12 ∷ 1 ∷ 0 ∷ 0 ∷ 1 ∷ 0 ∷ 0 ∷ 0 ∷ 2 ∷ 1 ∷ 1 ∷ [])
    ∷ (3 ∷ 2 ∷ 1 ∷ 12 ∷ 1 ∷ 0 ∷ 0 ∷ 2 ∷ 1 ∷ 1 ∷ 0 ∷ 0 ∷ 1 ∷ 1 ∷ [])
    ∷ (4 ∷ 1 ∷ 4 ∷ 12 ∷ 1 ∷ 0 ∷ 0 ∷ 0 ∷ 2 ∷ 0 ∷ 1 ∷ 2 ∷ [])
    ∷ (4 ∷ 2 ∷ 1 ∷ 12 ∷ 1 ∷ 0 ∷ 0 ∷ 1 ∷ 1 ∷ 1 ∷ 0 ∷ 0 ∷ 1 ∷ 1 ∷ [])
    ∷ (5 ∷ 10 ∷ [])
    ∷ (6 ∷ 6 ∷ 12 ∷ 1 ∷ 0 ∷ 0 ∷ 0 ∷ 0 ∷ 0 ∷ 0 ∷ 1 ∷ 1 ∷ 1 ∷ [])
    ∷ (7 ∷ 6 ∷ 12 ∷ 1 ∷ 0 ∷ 0 ∷ 1 ∷ 0 ∷ 1 ∷ 0 ∷ 0 ∷ [])
    ∷ []
unfolding print_v print_f
given_lines = refl

-- those of examples/retry.txt: row 2 is another, and the last line is of kind 8
pub retry_lines : print_lines (marked (sum_is 1 ∷ []) retry)
    ≡ (1 ∷ 3 ∷ 0 ∷ [])
    ∷ (1 ∷ 4 ∷ 0 ∷ [])
    ∷ (2 ∷ 2 ∷ 0 ∷ [])
    ∷ (2 ∷ 4 ∷ 0 ∷ [])
    ∷ (3 ∷ 1 ∷ 4 ∷ 12 ∷ 1 ∷ 0 ∷ 0 ∷ 0 ∷ 2 ∷ 0 ∷ 1 ∷ 2 ∷ [])
    ∷ (3 ∷ 0 ∷ 2 ∷ 12 ∷ 1 ∷ 0 ∷ 0 ∷ 1 ∷ 0 ∷ 0 ∷ 3 ∷ 0 ∷ 1 ∷ 2 ∷ 1 ∷ 1 ∷ [])
    ∷ (3 ∷ 2 ∷ 1 ∷ 12 ∷ 1 ∷ 0 ∷ 0 ∷ 2 ∷ 1 ∷ 1 ∷ 0 ∷ 0 ∷ 1 ∷ 1 ∷ [])
    ∷ (4 ∷ 1 ∷ 4 ∷ 12 ∷ 1 ∷ 0 ∷ 0 ∷ 0 ∷ 2 ∷ 0 ∷ 1 ∷ 2 ∷ [])
    ∷ (4 ∷ 2 ∷ 1 ∷ 12 ∷ 1 ∷ 0 ∷ 0 ∷ 1 ∷ 1 ∷ 1 ∷ 0 ∷ 0 ∷ 1 ∷ 1 ∷ [])
    ∷ (5 ∷ 10 ∷ [])
    ∷ (6 ∷ 6 ∷ 12 ∷ 1 ∷ 0 ∷ 0 ∷ 0 ∷ 0 ∷ 0 ∷ 0 ∷ 1 ∷ 1 ∷ 1 ∷ [])
    ∷ (7 ∷ 6 ∷ 12 ∷ 1 ∷ 0 ∷ 0 ∷ 1 ∷ 0 ∷ 1 ∷ 0 ∷ 0 ∷ [])
    ∷ (8 ∷ 12 ∷ 2 ∷ 0 ∷ 1 ∷ [])
    ∷ []
unfolding print_v print_f
retry_lines = refl
