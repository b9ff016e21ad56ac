use Rattle.longest_runs.proofs.Looks as laws
use Rattle.longest_runs.proofs.look_at.Goals as goal

pub loop-step-init : goal.loop-step-init
loop-step-init c = search laws.look_begins

pub returns-then-mark-to-ne-DONE : goal.returns-then-mark-to-ne-DONE
returns-then-mark-to-ne-DONE c = search (laws.look_stops, c.in-Some.ensures)

pub overflow_add-out : goal.overflow_add-out
overflow_add-out c = search laws.look_spare

pub loop-step-preserved-then-to-n : goal.loop-step-preserved-then-to-n
loop-step-preserved-then-to-n c = search (laws.look_by, c.in-Some.ensures)

pub loop-step-preserved : goal.loop-step-preserved
loop-step-preserved c = search (laws.look_past, c.in-Some.ensures)

pub returns : goal.returns
returns c = search (laws.look_ends, c.in_default.ensures)
