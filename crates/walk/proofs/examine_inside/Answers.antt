-- A state that passes is not searched.
use Rattle.walk.proofs.Walking as laws
use Rattle.walk.proofs.examine_inside.Goals as goal

pub returns-then-passes : goal.returns-then-passes
returns-then-passes c = search laws.inside_passes

pub returns : goal.returns
returns c = search laws.inside_finds
