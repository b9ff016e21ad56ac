-- The kind of a line by its bytes.
use Prim.Native.Nat.{ℕ}
use mathlib.Core.Path.{◌≡◌, sym}
use mathlib.Core.List.{List}
use Rattle.reader.specs.Line.{field_there, fields_of}
use Rattle.std.specs.Prelude.{Option, Some, None, unwrap_or}
use Rattle.reader.proofs.Line.{first_field, no_field}
use Rattle.design.specs.Lines.{kind_of}

pub kind_by : (line : List ℕ) (f : Option ℕ) → f ≡ field_there line 0 → unwrap_or f 0 ≡ kind_of (fields_of line)
kind_by line None e = rw (no_field line (sym e))
kind_by line (Some n) e = rw (first_field line n (sym e))
