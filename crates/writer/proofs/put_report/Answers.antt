-- `writer::put_report` writes the report where it fits.
use Rattle.writer.proofs.Bytes as bytes
use Rattle.writer.proofs.put_report.Goals as goal

pub returns-then-buffer-lt-REPORT_BYTES-clause-value : goal.returns-then-buffer-lt-REPORT_BYTES-clause-value
returns-then-buffer-lt-REPORT_BYTES-clause-value c = search bytes.report_none

pub returns-then-buffer-lt-REPORT_BYTES-clause-buffer_after : goal.returns-then-buffer-lt-REPORT_BYTES-clause-buffer_after
returns-then-buffer-lt-REPORT_BYTES-clause-buffer_after c = search bytes.report_none_kept

pub returns-clause-value : goal.returns-clause-value
returns-clause-value c = search bytes.report_put

pub returns-clause-buffer_after : goal.returns-clause-buffer_after
returns-clause-buffer_after c = search bytes.report_kept
