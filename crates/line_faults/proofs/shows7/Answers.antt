-- `line_faults::shows7`, by the line's kind and action.
use Rattle.line_faults.proofs.Laws as laws
use Rattle.line_faults.proofs.shows7.Goals as goal

pub returns-then-action-eq0 : goal.returns-then-action-eq0
returns-then-action-eq0 c = search laws.seventh_bare

pub returns-then-kind-eq3 : goal.returns-then-kind-eq3
returns-then-kind-eq3 c = search laws.seventh_impl

pub returns-then-action-eq0-2 : goal.returns-then-action-eq0-2
returns-then-action-eq0-2 c = search laws.seventh_internal

pub returns-then-row_count-gt0 : goal.returns-then-row_count-gt0
returns-then-row_count-gt0 c = search laws.seventh_spec

pub returns-then-kind-eq4 : goal.returns-then-kind-eq4
returns-then-kind-eq4 c = search laws.seventh_span

pub returns : goal.returns
returns c = search laws.seventh_other
