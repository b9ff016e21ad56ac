-- Each turn of the loop by its law of proofs/Looks.
use Prim.Native.Nat.{◌-◌}
use Rattle.longest_runs.specs.Search.{done}
use Rattle.longest_runs.proofs.Looks as laws
use Rattle.longest_runs.proofs.look_at.Given as goal

abbrev pub invariant-loop-step : goal.invariant-loop-step
invariant-loop-step l = laws.Looking l.lines.fields.now l.lines.starts.now l.shape l.n l.s l.mark l.out l.v l.k l.best

abbrev pub decreases-loop-step : goal.decreases-loop-step
decreases-loop-step l = done - l.k
