-- The values from the i-th on are stored, and what is left to divide is what they leave.
use mathlib.Core.Path.{◌≡◌}
use Prim.Native.Nat.{◌≤◌, min}
use Rattle.steps.proofs.Arrays as laws
use Rattle.steps.proofs.put_state.Given as goal

abbrev pub invariant-loop-i : goal.invariant-loop-i
invariant-loop-i l =
    let b = l.process.parameters.first in let n = min l.process.parameters.count 8 in (l.i ≤ n) × ((l.out ≡ laws.last_values l.lines.fields.now l.lines.starts.now b n l.number l.initial.out l.i) × (l.left ≡ laws.left_over l.lines.fields.now l.lines.starts.now b n l.number l.initial.out l.i))
