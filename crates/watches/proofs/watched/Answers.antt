-- By the row and what it changes.
use Rattle.watches.proofs.Laws as laws
use Rattle.watches.proofs.watched.Goals as goal

pub internal-rest-requires-clause-k_value : goal.internal-rest-requires-clause-k_value
internal-rest-requires-clause-k_value c = search laws.internal_row

pub returns-then-x-eq0 : goal.returns-then-x-eq0
returns-then-x-eq0 c = search laws.watched_internal

pub returns : goal.returns
returns c = search laws.watched_visible
