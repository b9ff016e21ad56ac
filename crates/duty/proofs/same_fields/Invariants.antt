-- `duty::same_fields` compares one field after the other.
use Prim.Native.Nat.{◌≤◌}
use mathlib.Core.Path.{◌≡◌}
use Rattle.duty.specs.Arrays.{same_from}
use Rattle.duty.proofs.Laws as laws
use Rattle.duty.proofs.same_fields.Given as goal

abbrev pub invariant-loop-k : goal.invariant-loop-k
invariant-loop-k l =
    (l.k ≤ l.n) × (laws.fields_left l.fields l.from l.due l.at l.n l.k ≡ same_from l.fields l.from l.due l.at l.n)
