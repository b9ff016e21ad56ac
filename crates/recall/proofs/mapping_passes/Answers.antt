-- Known, or mapped anew.
use Rattle.recall.proofs.Turns as laws
use Rattle.recall.proofs.mapping_passes.Goals as goal

pub returns-then-known-changed-eq0 : goal.returns-then-known-changed-eq0
returns-then-known-changed-eq0 c = search laws.mapping_kept

pub returns : goal.returns
returns c = search laws.mapping_new
