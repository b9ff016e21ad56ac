use Rattle.marked_edges.proofs.Edges as laws
use Rattle.marked_edges.proofs.marked_from.Goals as goal

pub returns-then-not-row : goal.returns-then-not-row
returns-then-not-row c = search laws.none_visible

pub loop-look-init : goal.loop-look-init
loop-look-init c = search laws.none_starts

pub returns-then-holds : goal.returns-then-holds
returns-then-holds c = search (laws.one_found, c.in-Some.ensures)

pub loop-look-preserved : goal.loop-look-preserved
loop-look-preserved c = search (laws.none_turns, c.in-Some.ensures)

pub returns-then-look-ge-MAX_SPAN : goal.returns-then-look-ge-MAX_SPAN
returns-then-look-ge-MAX_SPAN c = search (laws.none_far, c.in-Some.ensures)

pub returns : goal.returns
returns c = search (laws.none_ends, c.in_default.ensures)
