use Rattle.marked_edges.proofs.Edges as laws
use Rattle.marked_edges.proofs.next.Goals as goal

pub loop-i-init : goal.loop-i-init
loop-i-init c = laws.passed_starts _ _ _ _ _

pub returns-in-Some : goal.returns-in-Some
returns-in-Some c = search (laws.row_found, c.in-Some.ensures)

pub loop-i-preserved : goal.loop-i-preserved
loop-i-preserved c = search (laws.row_none, c.in_default.ensures)

pub returns : goal.returns
returns c = search laws.passed_ends
