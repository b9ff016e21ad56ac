-- `line_faults::shows5` asks for the line's numbers, and the sizes before it.
use Rattle.line_faults.proofs.Laws as laws
use Rattle.line_faults.proofs.shows5.Goals as goal

pub returns-then-not-numbers_fit : goal.returns-then-not-numbers_fit
returns-then-not-numbers_fit c = search laws.fifth_numbers

pub returns-then-field-ne1 : goal.returns-then-field-ne1
returns-then-field-ne1 c = search laws.fifth_other

pub returns : goal.returns
returns c = search laws.fifth_states
