-- The product of the sizes from the i-th on.
use mathlib.Core.Path.{◌≡◌}
use Prim.Native.Nat.{◌≤◌}
use lib.ListN.{drop}
use Rattle.foundation.specs.Radix.{product}
use Rattle.criteria.specs.Design.{sizes}
use Rattle.design.specs.Loaded.{process_in}
use Rattle.blocks.proofs.width.Given as goal

abbrev pub invariant-loop-i : goal.invariant-loop-i
invariant-loop-i l = (l.n ≤ l.i) × (l.w ≡ product (drop l.i (sizes (process_in l.lines.fields.now l.lines.starts.now l.process))))
