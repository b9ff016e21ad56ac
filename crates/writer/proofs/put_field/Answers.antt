-- `writer::put_field` writes a field where it fits.
use Rattle.writer.proofs.Bytes as bytes
use Rattle.writer.proofs.put_field.Goals as goal

pub returns-then-buffer-lt-COLUMNS-clause-value : goal.returns-then-buffer-lt-COLUMNS-clause-value
returns-then-buffer-lt-COLUMNS-clause-value c = search bytes.short_none

pub returns-then-buffer-lt-COLUMNS-clause-buffer_after : goal.returns-then-buffer-lt-COLUMNS-clause-buffer_after
returns-then-buffer-lt-COLUMNS-clause-buffer_after c = search bytes.short_kept

pub returns-then-buffer-at-clause-value : goal.returns-then-buffer-at-clause-value
returns-then-buffer-at-clause-value c = search bytes.far_none

pub returns-then-buffer-at-clause-buffer_after : goal.returns-then-buffer-at-clause-buffer_after
returns-then-buffer-at-clause-buffer_after c = search bytes.far_kept

pub returns-clause-value : goal.returns-clause-value
returns-clause-value c = search bytes.field_put

pub returns-clause-buffer_after : goal.returns-clause-buffer_after
returns-clause-buffer_after c = search bytes.field_kept
