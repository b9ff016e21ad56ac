-- What remains, or n if that is less.
use Rattle.std.proofs.Common.{rules}
use Rattle.examining.specs.Examined.{ahead}
use Rattle.examining.proofs.ahead.Goals as goal

pub returns : goal.returns
unfolding ahead
returns c = search rules
