-- What is left to store gives the whole.
use mathlib.Core.Path.{◌≡◌}
use mathlib.Core.Bool.{◌&&◌}
use Prim.Native.Nat.{◌≤◌}
use lib.ListN.{length}
use Rattle.row_plan.specs.RowPlan.{Blank}
use Rattle.plan.specs.Plan.{plan_in}
use Rattle.plan.proofs.Planned as laws
use Rattle.plan.proofs.plan.Given as goal

abbrev pub invariant-loop-i : goal.invariant-loop-i
invariant-loop-i l =
    (l.i ≤ 64)
    × ((length l.out ≡ 387)
    × (Blank l.out l.i
    × ((l.sure && laws.sure_left l.lines.fields.now l.lines.starts.now l.shape l.i ≡ laws.sure_left l.lines.fields.now l.lines.starts.now l.shape 0) × (laws.plan_left l.lines.fields.now l.lines.starts.now l.shape l.out l.i ≡ plan_in l.lines.fields.now l.lines.starts.now l.shape))))
