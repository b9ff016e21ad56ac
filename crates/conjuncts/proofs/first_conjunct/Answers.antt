-- By the mark.
use Rattle.conjuncts.proofs.Conjuncts as laws
use Rattle.conjuncts.proofs.first_conjunct.Goals as goal

pub returns-then-depth-eq0 : goal.returns-then-depth-eq0
returns-then-depth-eq0 c = search laws.conjunct_shallow

pub returns-then-fields-at : goal.returns-then-fields-at
returns-then-fields-at c = search laws.conjunct_past

pub returns-then-fields-at-ne-AND : goal.returns-then-fields-at-ne-AND
returns-then-fields-at-ne-AND c = search laws.conjunct_other

pub returns : goal.returns
returns c = search laws.conjunct_is
