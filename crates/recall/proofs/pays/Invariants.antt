-- A count of rows.
use Prim.Native.Nat.{◌≤◌}
use Rattle.recall.proofs.pays.Given as goal

abbrev pub invariant-loop-i : goal.invariant-loop-i
invariant-loop-i l = (l.restless ≤ l.i) × (l.i ≤ l.implementation.rows.count)
