-- `loader::copy_fields` goes on until there is no field: the fields passed and those ahead are all of them, and storing those ahead
-- gives the whole.
use Rattle.std.proofs.Common.{◌≡◌, ◌*◌, ◌+◌, ◌-◌, length, drop}
use lib.Seq.{sets}
use Rattle.reader.specs.Line.{fields_of}
use Rattle.loader.proofs.copy_fields.Given as goal

abbrev pub invariant-loop-n : goal.invariant-loop-n
invariant-loop-n l = record {
  same_part : l.reader.line.now ≡ l.part;
  passed : l.reader.at + length (fields_of (drop (6 * l.reader.at) l.part)) ≡ length (fields_of l.part);
  ahead : sets l.fields (l.to + l.reader.at) (fields_of (drop (6 * l.reader.at) l.part)) ≡ sets l.fn.fields l.to (fields_of l.part);
}

abbrev pub decreases-loop-n : goal.decreases-loop-n
decreases-loop-n l = length l.part - l.reader.at
