-- Not enabled, or a look.
use native.Mathlib.Omega.{arith}
use Rattle.recall.proofs.Looking as laws
use Rattle.recall.proofs.look_at.Goals as goal

pub returns-then-idle : goal.returns-then-idle
returns-then-idle c = search laws.look_idle

pub rows_seen_between-requires : goal.rows_seen_between-requires
rows_seen_between-requires c = omega arith

pub returns : goal.returns
returns c = search laws.look_seen
