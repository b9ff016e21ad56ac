-- `to_marked` adds a line of marks where there is none.
use Rattle.conversion.proofs.Calls as laws
use Rattle.conversion.proofs.to_marked.Goals as goal

pub returns-in_err-loaded-clause-value : goal.returns-in_err-loaded-clause-value
returns-in_err-loaded-clause-value c = laws.refused_as _ _ _ c.load.ensures _ c.in_err-loaded.was _ _ c.from_residual.ensures.1

pub returns-in_err-loaded-clause-buffer_after : goal.returns-in_err-loaded-clause-buffer_after
returns-in_err-loaded-clause-buffer_after c = laws.refused_same _ _ _ c.load.ensures _ c.in_err-loaded.was _

pub returns-then-shape-ne0-clause-value : goal.returns-then-shape-ne0-clause-value
returns-then-shape-ne0-clause-value c = search (laws.kept_as, c.load.ensures, c.in_ok-loaded.was)

pub returns-then-shape-ne0-clause-buffer_after : goal.returns-then-shape-ne0-clause-buffer_after
returns-then-shape-ne0-clause-buffer_after c = search (laws.kept_after, c.load.ensures, c.in_ok-loaded.was)

pub write_marked-requires : goal.write_marked-requires
write_marked-requires c = search (laws.marks_room, c.load.ensures, c.in_ok-loaded.was)

pub returns-clause-value : goal.returns-clause-value
returns-clause-value c = search (laws.marked_as_lem, c.load.ensures, c.in_ok-loaded.was)

pub returns-clause-buffer_after : goal.returns-clause-buffer_after
returns-clause-buffer_after c = search (laws.marked_after, c.load.ensures, c.in_ok-loaded.was)
