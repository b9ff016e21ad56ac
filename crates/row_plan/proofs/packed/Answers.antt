-- The flags are small.
use Rattle.row_plan.proofs.Numbers as laws
use Rattle.row_plan.proofs.packed.Goals as goal

pub pack-requires : goal.pack-requires
pack-requires c = search laws.flags_small

pub returns : goal.returns
returns c = search laws.packed_is
