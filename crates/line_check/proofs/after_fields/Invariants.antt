-- `line_check::after_fields`: the fields passed are the first of the part.
use mathlib.Core.Path.{◌≡◌}
use lib.ListN.{drop}
use Rattle.reader.specs.Line.{fields_of}
use Rattle.line_check.proofs.after_fields.Given as goal

abbrev pub invariant-loop-i : goal.invariant-loop-i
invariant-loop-i l = fields_of l.left ≡ drop l.i (fields_of l.part)
