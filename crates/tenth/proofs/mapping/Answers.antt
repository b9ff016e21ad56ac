-- By its risk, else by itself.
use Rattle.tenth.proofs.Laws as laws
use Rattle.tenth.proofs.mapping.Goals as goal

pub returns-then-safe : goal.returns-then-safe
returns-then-safe c = search laws.mapping_safe

pub returns : goal.returns
returns c = search laws.mapping_asked
