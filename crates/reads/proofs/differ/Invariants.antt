-- Parameter by parameter.
use Rattle.std.proofs.Common.{◌≡◌, ◌≤◌}
use Rattle.reads.specs.Reads.{differ_to}
use Rattle.reads.proofs.differ.Given as goal

abbrev pub invariant-loop-i : goal.invariant-loop-i
invariant-loop-i l = (l.found ≡ differ_to l.i l.v l.w) × (l.i ≤ 8)
