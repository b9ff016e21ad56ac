-- `fault_lines::next` asks for the fault, then for the first line that shows it.
use Rattle.fault_lines.proofs.Shown as shown
use Rattle.fault_lines.proofs.next.Goals as goal

pub returns-then-text-gt-MAX_BYTES : goal.returns-then-text-gt-MAX_BYTES
returns-then-text-gt-MAX_BYTES c = search shown.too_long

pub returns-in_default : goal.returns-in_default
returns-in_default c = search shown.no_fault

pub first_line-requires-clause-text_value : goal.first_line-requires-clause-text_value
first_line-requires-clause-text_value c = search shown.fault_is
