-- `write_places` ends: each piece has a place that those before it don't have.
use Rattle.std.proofs.Common.{◌-◌, length}
use Rattle.desk_calls.proofs.write_places.Given as goal

abbrev pub decreases-loop-from : goal.decreases-loop-from
decreases-loop-from l = length l.slice - l.from
