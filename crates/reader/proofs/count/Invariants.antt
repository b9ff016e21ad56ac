-- `reader::count` goes on until there is no field: k fields are passed, and those still ahead are the rest.
use Rattle.std.proofs.Common.{◌≡◌, ◌*◌, ◌+◌, ◌-◌, length, drop}
use Rattle.reader.specs.Line.{fields_of}
use Rattle.reader.proofs.count.Given as goal

abbrev pub invariant-loop-reader : goal.invariant-loop-reader
invariant-loop-reader l = record {
  same_part : l.reader.line.now ≡ l.part;
  passed : l.reader.at + length (fields_of (drop (6 * l.reader.at) l.part)) ≡ length (fields_of l.part);
}

abbrev pub decreases-loop-reader : goal.decreases-loop-reader
decreases-loop-reader l = length l.part - l.reader.at
