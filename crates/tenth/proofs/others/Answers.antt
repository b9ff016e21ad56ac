-- The mapping, the rows, those of the specification.
use Rattle.tenth.proofs.Laws as laws
use Rattle.tenth.proofs.others.Goals as goal

pub returns-then-not-mapping : goal.returns-then-not-mapping
returns-then-not-mapping c = search laws.others_mapping

pub returns-then-not-rows : goal.returns-then-not-rows
returns-then-not-rows c = search laws.others_impl

pub returns : goal.returns
returns c = search laws.others_spec
