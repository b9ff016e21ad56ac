-- `columns::digits` reads columns as the digits of a number, from the sixth back to one.
use Prim.Native.Nat.{◌≤◌}
use lib.ListN.{take, drop}
use Rattle.columns.proofs.Weights.{DigitsOf}
use Rattle.columns.proofs.digits.Given as goal

abbrev pub invariant-loop-i : goal.invariant-loop-i
invariant-loop-i l = record {
  from_le : l.from ≤ l.i;
  within : l.i ≤ 6;
  read : DigitsOf (drop l.i (take 6 l.part)) l.weight l.n;
}
