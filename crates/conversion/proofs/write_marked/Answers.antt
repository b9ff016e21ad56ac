-- `write_marked` stores a line of marks and writes all lines, if that fits.
use Rattle.conversion.proofs.Putting as laws
use Rattle.conversion.proofs.write_marked.Goals as goal

pub returns-then-end-gt-MAX_FIELDS-clause-value : goal.returns-then-end-gt-MAX_FIELDS-clause-value
returns-then-end-gt-MAX_FIELDS-clause-value c = search laws.over_answer

pub returns-then-end-gt-MAX_FIELDS-clause-buffer_after : goal.returns-then-end-gt-MAX_FIELDS-clause-buffer_after
returns-then-end-gt-MAX_FIELDS-clause-buffer_after c = search laws.over_buffer

pub returns-clause-value : goal.returns-clause-value
returns-clause-value c = search laws.within_answer

pub returns-clause-buffer_after : goal.returns-clause-buffer_after
returns-clause-buffer_after c = search laws.within_buffer
