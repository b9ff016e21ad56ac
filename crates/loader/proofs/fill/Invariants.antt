-- `loader::fill` stores a text's lines one by one: storing those still ahead gives the whole.
use Prim.Native.Nat.{◌-◌, ◌≤◌}
use lib.ListN.{length}
use Rattle.loader.proofs.Filling as filling
use Rattle.loader.proofs.fill.Given as goal

abbrev pub invariant-loop-at : goal.invariant-loop-at
invariant-loop-at l =
    (l.at ≤ length l.text) × filling.Progress l.text l.initial.fields l.initial.starts l.fields l.starts l.at l.to l.lines

abbrev pub decreases-loop-at : goal.decreases-loop-at
decreases-loop-at l = length l.text - l.at
