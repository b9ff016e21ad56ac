-- `text_writer::put_text` writes the text where it fits.
use Rattle.text_writer.proofs.Writing as laws
use Rattle.text_writer.proofs.put_text.Goals as goal

pub returns-then-buffer-bytes-clause-value : goal.returns-then-buffer-bytes-clause-value
returns-then-buffer-bytes-clause-value c = search laws.text_none

pub returns-then-buffer-bytes-clause-buffer_after : goal.returns-then-buffer-bytes-clause-buffer_after
returns-then-buffer-bytes-clause-buffer_after c = search laws.text_none_kept

pub returns-clause-value : goal.returns-clause-value
returns-clause-value c = search laws.text_put

pub returns-clause-buffer_after : goal.returns-clause-buffer_after
returns-clause-buffer_after c = search laws.text_kept
