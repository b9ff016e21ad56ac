-- Parameter by parameter.
use Rattle.std.proofs.Common.{◌≡◌, ◌≤◌}
use Rattle.divisors.specs.Divisors.{small_to}
use Rattle.divisors.proofs.small.Given as goal

abbrev pub invariant-loop-i : goal.invariant-loop-i
invariant-loop-i l = (l.small ≡ small_to l.i l.params) × (l.i ≤ 8)
