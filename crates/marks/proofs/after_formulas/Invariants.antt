-- The loop over formulas: what is left of them, from here, ends where all of them do.
use Prim.Native.Nat.{◌-◌}
use mathlib.Core.Path.{◌≡◌}
use Rattle.marks.specs.Marks.{after_formulas}
use Rattle.marks.proofs.after_formulas.Given as goal

abbrev pub invariant-loop-i : goal.invariant-loop-i
invariant-loop-i l = after_formulas l.fields l.next (l.n - l.i) ≡ after_formulas l.fields l.at l.n
