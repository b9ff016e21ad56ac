-- `examining::examine_next` walks over what is ahead.
use Rattle.examining.proofs.Laws as laws
use Rattle.examining.proofs.examine_next.Goals as goal

pub overflow_add-at : goal.overflow_add-at
overflow_add-at c = search laws.next_fits

pub returns : goal.returns
returns c = search laws.examined
