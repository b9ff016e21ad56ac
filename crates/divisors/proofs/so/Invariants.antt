-- Parameter by parameter.
use Rattle.std.proofs.Common.{◌≡◌, ◌≤◌}
use Rattle.divisors.specs.Divisors.{so_to}
use Rattle.divisors.proofs.so.Given as goal

abbrev pub invariant-loop-i : goal.invariant-loop-i
invariant-loop-i l = (l.known ≡ so_to l.i l.params) × (l.i ≤ 8)
