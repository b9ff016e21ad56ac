-- Each return is a law of Laws.
use Rattle.watches.proofs.Laws as laws
use Rattle.watches.proofs.+after.Goals as goal

pub returns-then-depth-eq0 : goal.returns-then-depth-eq0
returns-then-depth-eq0 t c = search laws.after_shallow

pub returns-then-fields-at : goal.returns-then-fields-at
returns-then-fields-at t c = search laws.after_ended

pub returns-then-fields-at-ne-AND : goal.returns-then-fields-at-ne-AND
returns-then-fields-at-ne-AND t c = search laws.after_other

pub returns : goal.returns
returns t c = search laws.after_both
