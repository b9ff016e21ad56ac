-- The loop over the initial values: what is left of the number gives the whole.
use Prim.Native.Nat.{◌≤◌}
use mathlib.Core.Path.{◌≡◌}
use Rattle.layout.specs.Sizes.{number_up_to}
use Rattle.layout.proofs.Sizes as laws
use Rattle.layout.proofs.Lent.number.Given as goal

abbrev pub invariant-loop-i : goal.invariant-loop-i
invariant-loop-i l =
    (l.v ≤ 65535) × (laws.number_left l.self.fields.now l.self.starts.now l.n l.i l.v ≡ number_up_to l.self.fields.now l.self.starts.now l.n)
