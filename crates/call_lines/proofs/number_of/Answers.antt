-- `number_of` looks how many digits there are, and reads them.
use Rattle.std.proofs.Common.{rules}
use Rattle.call_lines.proofs.Digits as digits
use Rattle.call_lines.proofs.number_of.Goals as goal
use Rattle.call_lines.proofs.number_of.Goals.{then-is_empty-via-then-is_empty, then-is_empty-via-else-is_empty+then-digits-gt20}

pub returns-then-is_empty : goal.returns-then-is_empty
returns-then-is_empty c =
    elim c.then-is_empty.branch [
      | then-is_empty-via-then-is_empty w ↦ search (rules, digits.too_few)
      | then-is_empty-via-else-is_empty+then-digits-gt20 w ↦ search (rules, digits.too_many)
    ]

pub returns-in_err-n : goal.returns-in_err-n
returns-in_err-n c = search (rules, digits.no_number)

pub loop-byte-preserved : goal.loop-byte-preserved
loop-byte-preserved c = (search (rules, digits.still_fits), search (rules, digits.goes_on))

pub returns : goal.returns
returns c = search (rules, digits.ends)
