-- What is over the last multiple goes, and the width comes.
use native.Mathlib.Nat.{mod-le}
use Rattle.blocks.proofs.Numbers as numbers
use Rattle.blocks.proofs.next_block.Goals as goal

pub overflow_sub-last : goal.overflow_sub-last
overflow_sub-last c = search mod-le

pub returns : goal.returns
returns c = search numbers.next_is
