-- The cases of the crate pump as texts: the pump table of 01, its nine variants, the tables with marks and those that may begin with an
-- internal step; and what it means that the functions report what the case says. It is so of each: `pump_reports`, `retry_reports` and
-- `first_step_reports` in proofs/Pump.
use Rattle.std.specs.Prelude.{ℕ, ◌≤◌, ◌≡◌, List, ◌++◌, length, drop}
use Rattle.reader.specs.Text.{text_of}
use Rattle.writer.specs.Report as bytes
use Rattle.decision.specs.Verdict.{verdict_of}
use Rattle.pump.specs.Table.{Case}
use Rattle.design.specs.Lines.{design_text}
use Rattle.design.specs.Faults.{DesignText}
use Rattle.design.specs.Print.{print_lines}
use Rattle.claims.specs.Contracted.{Checks}
use Rattle.claims.specs.Demand2.{Comes}

-- the table as a text
abbrev pub text_for : Case → List ℕ
text_for c = text_of (print_lines c.table)

pub record Reports (c : Case) : Type 0 where
  pub is_text : DesignText (text_for c)
  -- the desk, by the verdict on the table
  pub says_table : design_text (text_for c) ≡ c.table
  pub comes : Comes (text_for c) (verdict_of c.table)
  -- the one-call check, by the case's report
  pub answers : {report after : List ℕ} {r : ℕ} → Checks (text_for c) report r after → 31 ≤ length report → r ≡ c.says.verdict
  pub reports : {report after : List ℕ} {r : ℕ} → Checks (text_for c) report r after → 31 ≤ length report
      → after ≡ bytes.report_bytes c.says ++ drop 31 report
