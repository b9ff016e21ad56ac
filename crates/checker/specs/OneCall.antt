-- The one-call check (01, "The desk"; 02, order 6): "It returns 0 accepted, 1 failed or 2 turned down, with the report in the first 31
-- bytes; later bytes keep their content."; 3 is accepted too. 9. "A report buffer under 31 bytes: returned as 9, nothing written." The
-- report is that of the verdict on the text's design, or the text's lowest fault. That the verdict is demand 2's is in
-- decision/proofs/Demand2, that the fault is the lowest in loader/proofs/Lowest.
use Rattle.std.specs.Prelude.{ℕ, cond, List, ◌++◌, eqb, ltb, length, drop}
use Rattle.verdicts.specs.declared.Report.{Report}
use Rattle.verdicts.specs.Report.{report}
use Rattle.writer.specs.Report as bytes
use Rattle.criteria.specs.Verdict as criteria
use Rattle.decision.specs.Verdict.{verdict_of}
use Rattle.design.specs.Lines.{design_text}
use Rattle.loader.specs.Load.{fault_of}

-- "verdict (0, 1, 2), criterion or turned-down number, state, row, sum value; unused fields are 0": of a text that is turned down
abbrev pub refused_report : ℕ → Report
refused_report k = report 2 k 0 0 0

-- and of the verdict on a design
abbrev pub design_report : criteria.Verdict → Report
design_report v = criteria.report_of v

-- the report on a text
unfoldable pub judged_of : List ℕ → Report
judged_of text = cond (eqb (fault_of text) 0) (design_report (verdict_of (design_text text))) (refused_report (fault_of text))

unfoldable pub answer_of : List ℕ → List ℕ → ℕ
answer_of text buffer = cond (ltb (length buffer) 31) 9 (judged_of text).verdict

unfoldable pub buffer_written : List ℕ → List ℕ → List ℕ
buffer_written text buffer = cond (ltb (length buffer) 31) buffer (bytes.report_bytes (judged_of text) ++ drop 31 buffer)
