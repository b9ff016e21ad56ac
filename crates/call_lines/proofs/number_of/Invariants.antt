-- `number_of` reads digit by digit: the digits that are left, after the number so far, say the whole.
use Rattle.std.proofs.Common.{◌≡◌, ◌<◌, drop}
use Rattle.call_lines.specs.Number.{number_from}
use Rattle.call_lines.proofs.number_of.Given as goal

abbrev pub invariant-loop-byte : goal.invariant-loop-byte
invariant-loop-byte l = (l.n < 18446744073709551616) × (number_from l.n (drop l.byte-index l.digits) ≡ number_from 0 l.digits)
