-- `examining::examine` tries the start in the first advance.
use Rattle.examining.proofs.Laws as laws
use Rattle.examining.proofs.examine.Goals as goal

pub returns-then-holds : goal.returns-then-holds
returns-then-holds c = search laws.on_from_start

pub returns-then-next-eq0 : goal.returns-then-next-eq0
returns-then-next-eq0 c = search laws.start_fails_lem

pub returns : goal.returns
returns c = search laws.on_from_later
