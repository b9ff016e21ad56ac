-- The report as bytes (01, "The desk"): "The report is five fields and byte 10: verdict (0, 1, 2), criterion or turned-down number,
-- state, row, sum value; unused fields are 0."; since order 6 of 02 also 3. So it is a text of one line.
use Rattle.std.specs.Prelude.{ℕ, List, [], ◌∷◌}
use Rattle.reader.specs.Text.{text_of}
use Rattle.verdicts.specs.declared.Report.{Report}

abbrev pub fields_of_report : Report → List ℕ
fields_of_report r = r.verdict ∷ r.number ∷ r.state ∷ r.row ∷ r.sum ∷ []

unfoldable pub report_bytes : Report → List ℕ
report_bytes r = text_of (fields_of_report r ∷ [])
