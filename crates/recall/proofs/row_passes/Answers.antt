-- Known, or looked at.
use Rattle.recall.proofs.Looking as laws
use Rattle.recall.proofs.row_passes.Goals as goal

pub returns-then-known-changed-eq0-clause-value : goal.returns-then-known-changed-eq0-clause-value
returns-then-known-changed-eq0-clause-value c = search laws.kept_passes

pub returns-then-known-changed-eq0-clause-watch_after : goal.returns-then-known-changed-eq0-clause-watch_after
returns-then-known-changed-eq0-clause-watch_after c = search laws.kept_noted

pub returns-clause-value : goal.returns-clause-value
returns-clause-value c = search laws.seen_passes

pub returns-clause-watch_after : goal.returns-clause-watch_after
returns-clause-watch_after c = search laws.seen_noted
