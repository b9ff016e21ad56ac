-- `check_design` writes the report, or nothing.
use Rattle.checker.proofs.Judging as judging
use Rattle.checker.proofs.check_design.Goals as goal

pub returns-then-report-lt-REPORT_BYTES-clause-value : goal.returns-then-report-lt-REPORT_BYTES-clause-value
returns-then-report-lt-REPORT_BYTES-clause-value c = search judging.short

pub returns-then-report-lt-REPORT_BYTES-clause-report_after : goal.returns-then-report-lt-REPORT_BYTES-clause-report_after
returns-then-report-lt-REPORT_BYTES-clause-report_after c = search judging.short_kept

pub returns-clause-value : goal.returns-clause-value
returns-clause-value c = search judging.answered

pub returns-clause-report_after : goal.returns-clause-report_after
returns-clause-report_after c = search judging.written
