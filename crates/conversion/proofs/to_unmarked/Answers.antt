-- `to_unmarked` leaves the line of marks out.
use Rattle.conversion.proofs.Calls as laws
use Rattle.conversion.proofs.to_unmarked.Goals as goal

pub returns-in_err-loaded-clause-value : goal.returns-in_err-loaded-clause-value
returns-in_err-loaded-clause-value c = laws.refused_as _ _ _ c.load.ensures _ c.in_err-loaded.was _ _ c.from_residual.ensures.1

pub returns-in_err-loaded-clause-buffer_after : goal.returns-in_err-loaded-clause-buffer_after
returns-in_err-loaded-clause-buffer_after c = laws.refused_same _ _ _ c.load.ensures _ c.in_err-loaded.was _

pub returns-then-all-clause-value : goal.returns-then-all-clause-value
returns-then-all-clause-value c = search (laws.back_as, c.load.ensures, c.in_ok-loaded.was)

pub returns-then-all-clause-buffer_after : goal.returns-then-all-clause-buffer_after
returns-then-all-clause-buffer_after c = search (laws.back_after, c.load.ensures, c.in_ok-loaded.was)

pub returns-clause-value : goal.returns-clause-value
returns-clause-value c = search (laws.other_as, c.load.ensures, c.in_ok-loaded.was)

pub returns-clause-buffer_after : goal.returns-clause-buffer_after
returns-clause-buffer_after c = search (laws.other_same, c.load.ensures, c.in_ok-loaded.was)
