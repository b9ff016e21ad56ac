use Rattle.line_faults.proofs.Turns as turns
use Rattle.fault_lines.proofs.Shown as shown
use native.Mathlib.Omega.{arith}
use Rattle.fault_lines.proofs.first_line.Goals as goal

pub loop-at-init : goal.loop-at-init
loop-at-init c = search shown.sought_first

pub is_told-requires-clause-at_le_end : goal.is_told-requires-clause-at_le_end
is_told-requires-clause-at_le_end c = search turns.end_from

pub is_told-requires-clause-end_in_bounds : goal.is_told-requires-clause-end_in_bounds
is_told-requires-clause-end_in_bounds c = search turns.end_within

pub returns-then-is_told : goal.returns-then-is_told
returns-then-is_told c =
    search (shown.sought_here, c.requires.text_value, c.loop-at.invariant, c.line_end-end.ensures, c.is_told.ensures)

pub overflow_add-line : goal.overflow_add-line
overflow_add-line c =
    let q = c.loop-at.invariant.start in omega (arith, q.few, q.within, c.requires.text_len_bound)

pub loop-at-smaller : goal.loop-at-smaller
loop-at-smaller c = search turns.gets_on

pub loop-at-preserved : goal.loop-at-preserved
loop-at-preserved c =
    search (shown.sought_on, c.requires.text_value, c.loop-at.invariant, c.line_end-end.ensures, c.is_told.ensures)

pub returns : goal.returns
returns c = search shown.sought_last
