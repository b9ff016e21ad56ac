-- `columns::two_bytes` has the two bytes of a part from a place on.
use Prim.Native.Nat.{◌+◌, ◌<◌}
use borrow.Author.Rules.{rules}
use lib.ListN.{get_or}
use Rattle.columns.proofs.Word as word
use Rattle.columns.proofs.two_bytes.Goals as goal

-- a byte fits, in whichever order they are taken
low : (c : goal.After-shared_slice_known-2-1) → get_or c.args.part.now c.args.at 0 < 256
low c = (c.type_inv.part c.args.at).fits

high : (c : goal.After-shared_slice_known-2-1) → get_or c.args.part.now (c.args.at + 1) 0 < 256
high c = (c.type_inv.part (c.args.at + 1)).fits

pub overflow_cast-result : goal.overflow_cast-result
overflow_cast-result c = search (rules, low c, high c)

pub overflow_cast-result-2 : goal.overflow_cast-result-2
overflow_cast-result-2 c = search (rules, low c, high c)

pub overflow_mul-result : goal.overflow_mul-result
overflow_mul-result c = search (rules, low c, high c)

pub overflow_add-result : goal.overflow_add-result
overflow_add-result c = search (rules, low c, high c)

pub returns : goal.returns
returns c = search word.two
