-- Known, forgotten, or looked at.
use native.Mathlib.Omega.{arith}
use Rattle.recall.proofs.Looking as laws
use Rattle.recall.proofs.reply_passes.Goals as goal

pub returns-then-known-changed-eq0-clause-value : goal.returns-then-known-changed-eq0-clause-value
returns-then-known-changed-eq0-clause-value c = search laws.reply_kept

pub returns-then-known-changed-eq0-clause-watch_after : goal.returns-then-known-changed-eq0-clause-watch_after
returns-then-known-changed-eq0-clause-watch_after c = search laws.reply_noted

pub returns-then-not-quiet-clause-value : goal.returns-then-not-quiet-clause-value
returns-then-not-quiet-clause-value c = search laws.reply_passed

pub returns-then-not-quiet-clause-watch_after : goal.returns-then-not-quiet-clause-watch_after
returns-then-not-quiet-clause-watch_after c = search laws.reply_forgotten

pub rows_replied_between-requires : goal.rows_replied_between-requires
rows_replied_between-requires c = omega arith

pub returns-clause-value : goal.returns-clause-value
returns-clause-value c = search laws.reply_seen

pub returns-clause-watch_after : goal.returns-clause-watch_after
returns-clause-watch_after c = search laws.reply_written
