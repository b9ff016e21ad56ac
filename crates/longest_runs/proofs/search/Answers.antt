use Rattle.longest_runs.proofs.Looks as looks
use Rattle.longest_runs.proofs.Turns as laws
use Rattle.longest_runs.proofs.search.Goals as goal

pub loop-depth-init : goal.loop-depth-init
loop-depth-init c = search laws.search_begins

pub returns-then-root-n : goal.returns-then-root-n
returns-then-root-n c = search laws.search_ends

pub loop-depth-smaller-then-mark-root-eq0 : goal.loop-depth-smaller-then-mark-root-eq0
loop-depth-smaller-then-mark-root-eq0 c = search laws.root_less

pub loop-depth-preserved-then-mark-root-eq0 : goal.loop-depth-preserved-then-mark-root-eq0
loop-depth-preserved-then-mark-root-eq0 c = search laws.root_enters

pub loop-depth-smaller-else-mark-root-eq0 : goal.loop-depth-smaller-else-mark-root-eq0
loop-depth-smaller-else-mark-root-eq0 c = search laws.pass_less

pub loop-depth-preserved-else-mark-root-eq0 : goal.loop-depth-preserved-else-mark-root-eq0
loop-depth-preserved-else-mark-root-eq0 c = search laws.root_passes

pub look-seen-requires : goal.look-seen-requires
look-seen-requires c = search laws.search_looks

pub offset_bounds-out-s : goal.offset_bounds-out-s
offset_bounds-out-s c = search laws.last_scaled

pub bounds-out-s : goal.bounds-out-s
bounds-out-s c = search laws.last_in_out

pub offset_bounds-mark-s : goal.offset_bounds-mark-s
offset_bounds-mark-s c = search laws.last_scaled

pub bounds-mark-s : goal.bounds-mark-s
bounds-mark-s c = search laws.last_small

pub clear-requires : goal.clear-requires
clear-requires c = search laws.set_fits

pub shape_of-out-then-mark-to-ne0 : goal.shape_of-out-then-mark-to-ne0
shape_of-out-then-mark-to-ne0 c = search (laws.cleared_long, looks.left_step _ _ _ _ _ _ _ _ _ c.look-seen.ensures c.in-Some.is)

pub returns-then-mark-to-ne0 : goal.returns-then-mark-to-ne0
returns-then-mark-to-ne0 c = search (laws.search_loops, looks.left_step _ _ _ _ _ _ _ _ _ c.look-seen.ensures c.in-Some.is)

pub bounds-path-depth-in-Some : goal.bounds-path-depth-in-Some
bounds-path-depth-in-Some c = search (laws.way_room, looks.left_step _ _ _ _ _ _ _ _ _ c.look-seen.ensures c.in-Some.is)

pub loop-depth-smaller-in-Some : goal.loop-depth-smaller-in-Some
loop-depth-smaller-in-Some c = search (laws.push_less, looks.left_step _ _ _ _ _ _ _ _ _ c.look-seen.ensures c.in-Some.is)

pub loop-depth-preserved-in-Some : goal.loop-depth-preserved-in-Some
loop-depth-preserved-in-Some c = search (laws.search_enters, looks.left_step _ _ _ _ _ _ _ _ _ c.look-seen.ensures c.in-Some.is)

pub loop-depth-smaller : goal.loop-depth-smaller
loop-depth-smaller c = search (laws.all_less, looks.no_step _ _ _ _ _ _ _ _ c.look-seen.ensures c.in_default.is)

pub loop-depth-preserved : goal.loop-depth-preserved
loop-depth-preserved c = search (laws.all_finished, looks.no_step _ _ _ _ _ _ _ _ c.look-seen.ensures c.in_default.is)
