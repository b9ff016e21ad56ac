-- `loader::terms_fit` asks each line of a text in turn.
use Prim.Native.Nat.{◌-◌, ◌≤◌}
use lib.ListN.{length}
use Rattle.loader.specs.Load.{line_test}
use Rattle.loader.proofs.Filling as filling
use Rattle.loader.proofs.terms_fit.Given as goal

abbrev pub invariant-loop-at : goal.invariant-loop-at
invariant-loop-at l = (l.at ≤ length l.text) × filling.Asked (line_test l.n l.m l.i) l.text l.at

abbrev pub decreases-loop-at : goal.decreases-loop-at
decreases-loop-at l = length l.text - l.at
