-- By its value, and what it reads where it fails.
use Rattle.blocks.proofs.Laws as laws
use Rattle.blocks.proofs.as_one.Goals as goal

pub returns-then-x : goal.returns-then-x
returns-then-x c = search laws.one_holds

pub returns : goal.returns
returns c = search laws.one_fails
