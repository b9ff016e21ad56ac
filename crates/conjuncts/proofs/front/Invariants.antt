-- What is left to count, and what is counted, give the whole.
use Rattle.std.proofs.Common.{◌≡◌, ◌-◌, ◌≤◌}
use Rattle.conjuncts.proofs.Conjuncts as laws
use Rattle.conjuncts.specs.Conjuncts.{front_of}
use Rattle.conjuncts.proofs.front.Given as goal

abbrev pub invariant-loop-n : goal.invariant-loop-n
invariant-loop-n l = (l.n ≤ 32) × (laws.front_left l.desk l.at l.place (32 - l.n) l.n ≡ front_of l.desk l.at 32)
