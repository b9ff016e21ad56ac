-- `put_places` puts one number after the other: what was put, with the places that are left after it, is all.
use Prim.Native.Nat.{◌-◌, ◌*◌, ◌≤◌}
use mathlib.Core.Path.{◌≡◌}
use mathlib.Core.List.{◌++◌}
use lib.ListN.{take, drop}
use Rattle.io.specs.Counts.{IsPrefixLen}
use Rattle.answer_lines.specs.Answers.{places_of}
use Rattle.answer_lines.proofs.put_places.Given as goal

abbrev pub invariant-loop-i : goal.invariant-loop-i
invariant-loop-i l =
    (l.from ≤ l.i) × (l.at ≤ 21 * (l.i - l.from)) × IsPrefixLen l.at l.line × (take l.at l.line ++ places_of (drop l.i l.slice) ≡ places_of (drop l.from l.slice))
