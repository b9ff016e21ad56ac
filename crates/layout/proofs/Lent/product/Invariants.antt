-- The loop over the sizes: what is left of the product gives the whole.
use Prim.Native.Nat.{◌≤◌}
use mathlib.Core.Path.{◌≡◌}
use Rattle.layout.specs.Sizes.{product_up_to}
use Rattle.layout.proofs.Sizes as laws
use Rattle.layout.proofs.Lent.product.Given as goal

abbrev pub invariant-loop-i : goal.invariant-loop-i
invariant-loop-i l =
    (l.p ≤ 65537) × (laws.product_left l.self.fields.now l.self.starts.now l.n l.i l.p ≡ product_up_to l.self.fields.now l.self.starts.now l.n)
