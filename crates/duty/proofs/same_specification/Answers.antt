-- `duty::same_specification` compares parameters and rows.
use Rattle.duty.proofs.Laws as laws
use Rattle.duty.proofs.same_specification.Goals as goal

pub returns : goal.returns
returns c = search laws.both_sections
